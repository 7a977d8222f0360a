-- When a line is 1, and when 2: the bytes from one place on go one of four ways. Assumes nothing.
use Prim.Native.Nat.{ℕ, ◌≤◌}
use mathlib.Core.Path.{◌≡◌, refl, sym, ap, ◌∙◌}
use mathlib.Core.List.{List}
use mathlib.Core.Logic.{inl, inr, ⊎_elim}
use native.Mathlib.Omega.{arith}
use native.Mathlib.Decide.{dec_lt}
use lib.ListN.{length, take}
use lib.Seq.{length-take-le}
use Rattle.std.specs.Prelude.{Ok, Err}
use Rattle.wire.specs.Status.{refusal_number}
use Rattle.wire.specs.declared.status.Refusal.{Refusal as Reason}
use Rattle.message_reader.specs.Reading.{Answer, size_in, read_message}
use Rattle.message_reader.specs.Theorems.{Refusal}
use Rattle.message_reader.specs.Theorems as given
use Rattle.message_reader.proofs.Laws.Header.{size_declared, size_there, size_take}
use Rattle.message_reader.proofs.Laws.Reading.{fault_number, refusal_of}
use Rattle.message_recording.specs.Line.{shown, line_number, line_of}
use Rattle.message_recording.specs.Theorems.{EndExactly, CutBySize, CutShort, OneExactly, SizeBelow, TwoExactly}
use Rattle.message_recording.proofs.Laws.Line.{nothing, end_exactly, cut_by_size}

-- a message whose Size is its length is refused with neither
sized_number : (t : List ℕ) → 4 ≤ length t → size_in t ≡ length t → (r : Reason) (place : ℕ) → Refusal t r place → 3 ≤ refusal_number r
sized_number t f e x place (given.before_header h) = absurd (let no : ⊥ = omega arith in no)
sized_number t f e x place (given.before_size a b h) = absurd (let no : ⊥ = omega arith in no)
sized_number t f e x place (given.below_header a h) = absurd (let no : ⊥ = omega arith in no)
sized_number t f e x place (given.left_over b h) = absurd (let no : ⊥ = omega arith in no)
sized_number t f e x place (given.version a b h) = omega arith
sized_number t f e x place (given.command a b v h) = omega arith
sized_number t f e x place (given.tlv {m = m} h r a y) = let n = fault_number t place m x y in omega arith
sized_number t f e x place (given.missing u h r n g) = omega arith

-- so what is shown of it is neither
abbrev Other : ℕ → Type 0
Other n = (n ≡ 1 → ⊥) × (n ≡ 2 → ⊥)

shown_number : (t : List ℕ) → 4 ≤ length t → size_in t ≡ length t → (n : ℕ) (a : Answer) → read_message t ≡ a → Other (line_number (shown n a))
shown_number t f e n (Ok m) r = (λ z. omega arith, λ z. omega arith)
shown_number t f e n (Err x) r =
    let l = sized_number t f e x.refusal x.place (refusal_of t x.refusal x.place r) in
    (λ z. omega arith, λ z. omega arith)

module _ (s : List ℕ) where
  abbrev number : ℕ
  number = line_number (line_of s)

  data Way : Type 0 where
    none : length s ≡ 0 → number ≡ 0 → Way
    short : CutShort s → number ≡ 1 → Way
    below : SizeBelow s → number ≡ 2 → Way
    cut_off : 4 ≤ size_in s → size_in s ≤ length s → Other number → Way

  whole : 4 ≤ length s → 4 ≤ size_in s → size_in s ≤ length s → line_of s ≡ shown (size_in s) (read_message (take (size_in s) s)) → Other number
  whole four counted there e =
      let n = size_in s in
      let t = size_declared (take n s) n (size_take s n counted ∙ size_there s four counted) in
      let l : length (take n s) ≡ n = length-take-le n s there in
      rw e (shown_number (take n s) (omega arith) (sym t.size ∙ sym l) n (read_message (take n s)) refl)

  way : Way
  unfolding CutBySize EndExactly
  way = elim (dec_lt 0 (length s)) [
    | no z ↦ none (omega arith) (ap line_number ((end_exactly s).1 (nothing s (omega arith))))
    | yes h ↦
        let by = cut_by_size s h in
        elim (dec_lt (length s) 4) [
          | yes l ↦ short (h, inl l) (ap line_number (by.0 l))
          | no f ↦
              let four : 4 ≤ length s = omega arith in
              elim (dec_lt (size_in s) 4) [
                | yes b ↦ below (four, b) (ap line_number (by.1 four b))
                | no c ↦
                    let counted : 4 ≤ size_in s = omega arith in
                    elim (dec_lt (length s) (size_in s)) [
                      | yes l ↦ short (h, inr (counted, l)) (ap line_number (by.2 four l))
                      | no w ↦
                          let there : size_in s ≤ length s = omega arith in
                          cut_off counted there (whole four counted there (by.3 counted there))
                    ]
              ]
        ]
  ]

  -- no bytes are cut short whose Size is below 4, or is all there
  not_below : CutShort s → SizeBelow s → ⊥
  not_below c b = ⊎_elim (λ l. omega (arith, b.0)) (λ l. omega (arith, b.1, l.0)) c.1

  not_there : CutShort s → 4 ≤ size_in s → size_in s ≤ length s → ⊥
  not_there c f w = ⊎_elim (λ l. omega arith) (λ l. omega (arith, l.1)) c.1

  one : Way → (number ≡ 1 → CutShort s) × (CutShort s → number ≡ 1)
  one (none z n) = (λ e. absurd (let no : ⊥ = omega arith in no), λ c. absurd (let no : ⊥ = omega (arith, c.0) in no))
  one (short c n) = (λ e. c, λ d. n)
  one (below b n) = (λ e. absurd (let no : ⊥ = omega arith in no), λ c. absurd (not_below c b))
  one (cut_off f w other) = (λ e. absurd (other.0 e), λ c. absurd (not_there c f w))

  two : Way → (number ≡ 2 → SizeBelow s) × (SizeBelow s → number ≡ 2)
  two (none z n) = (λ e. absurd (let no : ⊥ = omega arith in no), λ b. absurd (let no : ⊥ = omega (arith, b.0) in no))
  two (short c n) = (λ e. absurd (let no : ⊥ = omega arith in no), λ b. absurd (not_below c b))
  two (below b n) = (λ e. b, λ d. n)
  two (cut_off f w other) = (λ e. absurd (other.1 e), λ b. absurd (let no : ⊥ = omega (arith, b.1) in no))

pub one_exactly : OneExactly
unfolding OneExactly
one_exactly s = one s (way s)

pub two_exactly : TwoExactly
unfolding TwoExactly
two_exactly s = two s (way s)
