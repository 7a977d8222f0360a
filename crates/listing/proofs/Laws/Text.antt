-- Digits as std prints them, and texts one after the other. Assumes nothing.
use Rattle.std.specs.Fmt as Fmt
use Rattle.std.proofs.lemmas.Fmt.{AppendsLastDigit, decimal_from_appends, length-decimal-le}
use Rattle.std.proofs.Common.{◌≡◌, ℕ, ◌^◌, ◌<◌, List, ◌++◌, take, ap, ◌∙◌, append_assoc, arith, length-append, le-ltb, lt-ltb}
use Rattle.listing.specs.Text.{decimal_to, decimal, Put}

-- one text after the other
pub put_then
    : {before mid out a b : List ℕ} {at r q : ℕ} → Put before at a r mid → Put mid r b q out → Put before at (a ++ b) q out
put_then {before} {mid} {out} {a} {b} {at} p s =
    record {
      place = simp length-append (omega (arith, p.place, s.place));
      bytes = s.bytes ∙ ap (λ (l : List ℕ). l ++ b) p.bytes ∙ append_assoc (take at before) a b;
    }

-- the digits are appended as those that std prints
appends : AppendsLastDigit decimal_to
unfolding decimal_to
appends = record {
  one = λ k n h. simp (lt-ltb n 10 h);
  more = λ k n h. simp (le-ltb n 10 h);
}

-- so a number of 64 bits is put as std prints it
pub printed_decimal : (n : ℕ) → n < 2 ^ 64 → decimal n ≡ Fmt.decimal n
unfolding decimal
printed_decimal n h = decimal_from_appends decimal_to appends 20 n h (length-decimal-le 20 n (omega arith) (omega arith) h)
