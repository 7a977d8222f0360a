-- The size of a record, by one type more, and with one field more: what the types below it and above it add stays the same. Assumes nothing.
use Prim.Native.Nat.{ℕ, zero, suc, ◌+◌, ◌<◌, ◌≤◌}
use mathlib.Core.Path.{◌≡◌, refl, sym, ap, ◌∙◌}
use mathlib.Core.Bool.{true, false}
use mathlib.Core.Logic.{⊎_elim}
use native.Mathlib.Omega.{arith}
use native.Mathlib.Nat.{eq-or-lt_of_le}
use native.Mathlib.Numerals.{add-one}
use Rattle.message_rules.specs.declared.record.Field.{Field}
use Rattle.message_rules.specs.declared.record.Message.{Message}
use Rattle.message_rules.specs.Record.{field_of, with_field, empty_of, tlv_size, size_to}
use Rattle.message_rules.proofs.Laws.Record.{field_same, field_other, field_empty}

module _ (m : Message) where
  pub size_least : (t : ℕ) → 4 ≤ size_to m t
  unfolding size_to
  size_least zero = omega arith
  size_least (suc t) = omega (arith, size_least t)

  pub size_grows : (k t : ℕ) → t ≤ k → size_to m t ≤ size_to m k
  unfolding size_to
  size_grows zero t h = let q : t ≡ 0 = omega arith in rw q (omega arith)
  size_grows (suc k) t h =
      ⊎_elim
      (λ (q : t ≡ suc k). rw q (omega arith))
      (λ (q : t < suc k). omega (arith, size_grows k t (omega arith)))
      (eq-or-lt_of_le h)

  pub size_there : (t : ℕ) → (field_of m t).present ≡ true → size_to m (t + 1) ≡ size_to m t + 3 + (field_of m t).len
  unfolding size_to tlv_size
  size_there t p = rw add-one (simp p (omega arith))

  pub size_none : (t : ℕ) → (field_of m t).present ≡ false → size_to m (t + 1) ≡ size_to m t
  unfolding size_to tlv_size
  size_none t p = rw add-one (simp p (omega arith))

pub size_empty : (c k : ℕ) → size_to (empty_of c) k ≡ 4
unfolding size_to tlv_size
size_empty c zero = refl
size_empty c (suc k) = simp (field_empty c k) (omega (arith, size_empty c k))

module _ (m : Message) (t : ℕ) (f : Field) (small : t < 8) (not_1 : t ≡ 1 → ⊥) (there : f.present ≡ true) where
  size_low : (k : ℕ) → k ≤ t → size_to (with_field m t f) k ≡ size_to m k
  unfolding size_to
  size_low zero h = refl
  size_low (suc k) h = rw (size_low k (omega arith), field_other m t k f (λ (q : t ≡ k). omega arith))

  -- a new field adds its size
  pub size_with : (field_of m t).present ≡ false → (k : ℕ) → t < k → k ≤ 8 → size_to (with_field m t f) k ≡ size_to m k + (3 + f.len)
  unfolding size_to tlv_size
  size_with gone zero h b = absurd (let no : ⊥ = omega arith in no)
  size_with gone (suc k) h b =
      ⊎_elim
      (λ (q : t ≡ k).
      let g = ap (field_of (with_field m t f)) (sym q) ∙ field_same m f t small not_1 in
      let n : (field_of m k).present ≡ false = ap (λ (i : ℕ). (field_of m i).present) (sym q) ∙ gone in
      simp (g, there, n) (omega (arith, size_low k (omega arith))))
      (λ (q : t < k). simp (field_other m t k f (λ (o : t ≡ k). omega arith)) (omega (arith, size_with gone k q (omega arith))))
      (eq-or-lt_of_le {n = t} {m = k} (omega arith))
