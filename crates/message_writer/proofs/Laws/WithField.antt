-- The bytes of a record with one field more: what the types below it and above it add stays the same. Assumes nothing.
use Prim.Native.Nat.{ℕ, zero, suc, ◌<◌, ◌≤◌}
use mathlib.Core.Path.{◌≡◌, refl, sym, ap, ◌∙◌}
use mathlib.Core.Bool.{true, false}
use mathlib.Core.List.{List, [], ◌++◌, append-nil}
use mathlib.Core.Logic.{⊎_elim}
use native.Mathlib.Omega.{arith}
use native.Mathlib.Nat.{eq-or-lt_of_le}
use Rattle.message_rules.specs.declared.record.Field.{Field}
use Rattle.message_rules.specs.declared.record.Message.{Message}
use Rattle.message_rules.specs.Record.{field_of, with_field, empty_of}
use Rattle.message_writer.specs.Writing.{tlv_bytes, body_to}
use Rattle.message_rules.proofs.Laws.Record.{field_same, field_other, field_empty}

pub body_empty : (s : List ℕ) (c k : ℕ) → body_to s (empty_of c) k ≡ []
unfolding body_to
body_empty s c zero = refl
body_empty s c (suc k) = simp (field_empty c k, body_empty s c k)

module _ (m : Message) (t : ℕ) (f : Field) (small : t < 8) (not_1 : t ≡ 1 → ⊥) (there : f.present ≡ true) where
  module _ (s : List ℕ) where
    body_low : (k : ℕ) → k ≤ t → body_to s (with_field m t f) k ≡ body_to s m k
    unfolding body_to
    body_low zero h = refl
    body_low (suc k) h = rw (body_low k (omega arith), field_other m t k f (λ (q : t ≡ k). omega arith))

    -- a new field of a type above all others adds its bytes at the end
    pub body-with
        : ((u : ℕ) → t ≤ u → (field_of m u).present ≡ false) → (k : ℕ) → t < k → k ≤ 8
        → body_to s (with_field m t f) k ≡ body_to s m k ++ tlv_bytes s t f
    unfolding body_to
    body-with gone zero h b = absurd (let no : ⊥ = omega arith in no)
    body-with gone (suc k) h b =
        ⊎_elim
        (λ (q : t ≡ k).
        let g = ap (field_of (with_field m t f)) (sym q) ∙ field_same m f t small not_1 in
        simp (body_low k (omega arith), g, there, gone k (omega arith), append-nil) (ap (λ (i : ℕ). body_to s m k ++ tlv_bytes s i f) (sym q)))
        (λ (q : t < k). simp (body-with gone k q (omega arith), field_other m t k f (λ (o : t ≡ k). omega arith), gone k (omega arith), append-nil))
        (eq-or-lt_of_le {n = t} {m = k} (omega arith))
