-- Laws of records laid over bytes: what is laid reads back. Assumes nothing.
use Rattle.std.proofs.Common.{◌≡◌, ℕ, zero, suc, ◌+◌, ◌-◌, ◌^◌, ◌<◌, ◌≤◌, Bool, true, false, List, [], ◌++◌, length, get_or, refl, ap, ◌∙◌, arith, length-append, get_or-append-add, le-leb}
use mir.Val.{bool_byte}
use lib.ListN.{get_or-append}
use Rattle.wire.specs.Laid.{laid}
use Rattle.wire.specs.Layout.{flag, is_set}
use Rattle.wire.specs.LittleEndian.{number_at, bytes, AllThere}
use Rattle.wire.proofs.Laws.Laid.{laid_fits, length_laid}
use Rattle.wire.proofs.Laws.Number.{number_same, number_bytes_lem, length_bytes}
use Rattle.wire.proofs.Laws.Splice.{in_part}
use Rattle.wire.proofs.Laws.Written.{Written, none}

-- where its bytes are there, a number is read from them
pub there : AllThere
unfolding number_at
there n at s h = simp (le-leb (at + n) (length s) h)

pub power_positive : (n : ℕ) → 0 < 256 ^ n
power_positive zero = omega arith
power_positive (suc n) = omega (arith, power_positive n)

-- what is written is little-endian
pub nothing : (at : ℕ) (xs : List ℕ) → Written false at at [] xs xs
nothing = none false

-- a flag as code has it
pub flag_byte : (b : Bool) → bool_byte b ≡ flag b
flag_byte true = refl
flag_byte false = refl

flag_small : (b : Bool) → flag b < 256
flag_small true = omega arith
flag_small false = omega arith

flag_back : (b : Bool) → is_set (flag b) ≡ b
flag_back true = refl
flag_back false = refl

-- the elements of s before the place `to` are ds
pub record Begins (to : ℕ) (ds s : List ℕ) : Type 0 where
  pub same : (k : ℕ) → k < length ds → get_or s k 0 ≡ get_or ds k 0
  pub end : length ds ≡ to
  pub within : to ≤ length s

-- bytes begin with the record that is laid over them
pub laid_begins : (to : ℕ) (ds xs : List ℕ) → length ds ≡ to → to ≤ length xs → Begins to ds (laid ds xs)
laid_begins to ds xs e h =
    record {
      same = λ k l.
          let i : k - 0 ≡ k = omega arith in
          rw (laid_fits ds xs (omega arith)) (in_part 0 ds xs (omega arith) k (omega arith) (omega arith) ∙ ap (λ (m : ℕ). get_or ds m 0) i);
      end = e;
      within = rw (length_laid ds xs) h;
    }

module _ (at : ℕ) (ds : List ℕ) {s : List ℕ} where
  -- what stands before the last n bytes
  pub before_part : (n : ℕ) (es : List ℕ) → length es ≡ n → Begins (at + n) (ds ++ es) s → Begins at ds s
  before_part n es e b =
      let l : length (ds ++ es) ≡ length ds + length es = length-append ds es in
      let d = b.end in
      let w = b.within in
      record { same = λ k h. b.same k (omega arith) ∙ get_or-append ds es 0 k h; end = omega arith; within = omega arith }

  pub before : (n v : ℕ) → Begins (at + n) (ds ++ bytes n v) s → Begins at ds s
  before n v b = before_part n (bytes n v) (length_bytes false n v) b

  -- the number in the last n bytes
  pub number_in : (n v : ℕ) → v < 256 ^ n → Begins (at + n) (ds ++ bytes n v) s → number_at n s at ≡ v
  number_in n v small b =
      let l : length (ds ++ bytes n v) ≡ length ds + length (bytes n v) = length-append ds (bytes n v) in
      let m : length (bytes n v) ≡ n = length_bytes false n v in
      let d = b.end in
      there n at s b.within
      ∙ number_same false n s (bytes n v) at 0
      (λ k h.
      let i : at + k ≡ length ds + k = omega arith in
      let j : 0 + k ≡ k = omega arith in
      rw (i, j) (b.same (length ds + k) (omega arith) ∙ get_or-append-add ds (bytes n v) k 0))
      ∙ number_bytes_lem false n v small

  -- the flag in the last byte
  pub flag_in : (f : Bool) → Begins (at + 1) (ds ++ bytes 1 (flag f)) s → is_set (number_at 1 s at) ≡ f
  flag_in f b = ap is_set (number_in 1 (flag f) (flag_small f) b) ∙ flag_back f
