-- Laws of the fields of a record. Assumes nothing.
use Prim.Native.Nat.{ℕ, ◌<◌}
use mathlib.Core.Path.{◌≡◌, refl, sym, ap, ◌∙◌}
use mathlib.Core.Bool.{Bool, true, false, cond}
use mathlib.Core.Logic.{◌⊎◌, inl, inr, ⊎_elim}
use native.Mathlib.Omega.{arith}
use native.Mathlib.Decide.{dec_lt}
use borrow.Author.Tests.{eqb-true, eqb-false, ne_eqb}
use lib.Dec.{eqb}
use Rattle.message_rules.specs.declared.record.Field.{Field}
use Rattle.message_rules.specs.declared.record.Message.{Message}
use Rattle.message_rules.proofs.Laws.Rules.{each_type}
use Rattle.message_rules.specs.Record.{absent, field_of, with_field, empty_of}
use Rattle.wire.proofs.Laws.Bool.{either, not_both}

-- ---- the fields of a record with another field

-- one test of `field_of`, at another type than the one that was set
other : (t u k : ℕ) (f x y z : Field) (a b : Bool) → eqb u k ≡ a → eqb t k ≡ b → (t ≡ u → ⊥) → y ≡ z → cond a (cond b f x) y ≡ cond a x z
other t u k f x y z false b ea eb n e = e
other t u k f x y z true false ea eb n e = refl
other t u k f x y z true true ea eb n e = absurd (n (eqb-true t k eb ∙ sym (eqb-true u k ea)))

pub field_other : (m : Message) (t u : ℕ) (f : Field) → (t ≡ u → ⊥) → field_of (with_field m t f) u ≡ field_of m u
unfolding field_of with_field
field_other m t u f n =
    other t u 0 f _ _ _ _ _ refl refl n
    (other t u 2 f _ _ _ _ _ refl refl n
    (other t u 3 f _ _ _ _ _ refl refl n
    (other t u 4 f _ _ _ _ _ refl refl n
    (other t u 5 f _ _ _ _ _ refl refl n
    (other t u 6 f _ _ _ _ _ refl refl n
    (other t u 7 f _ _ _ _ _ refl refl n refl))))))

pub field_same : (m : Message) (f : Field) (t : ℕ) → t < 8 → (t ≡ 1 → ⊥) → field_of (with_field m t f) t ≡ f
unfolding field_of with_field
field_same m f =
    each_type (λ (t : ℕ). (t ≡ 1 → ⊥) → field_of (with_field m t f) t ≡ f)
    (λ n. refl) (λ n. absurd (n refl)) (λ n. refl) (λ n. refl) (λ n. refl) (λ n. refl) (λ n. refl) (λ n. refl)

-- each field is the one that was set, or as it was
pub field_with
    : (m : Message) (t : ℕ) (f : Field) → t < 8 → (t ≡ 1 → ⊥) → (u : ℕ)
    → ((t ≡ u) × (field_of (with_field m t f) u ≡ f)) ⊎ ((t ≡ u → ⊥) × (field_of (with_field m t f) u ≡ field_of m u))
field_with m t f h n u =
    ⊎_elim
    (λ (e : eqb t u ≡ true). let q = eqb-true t u e in inl (q, ap (field_of (with_field m t f)) (sym q) ∙ field_same m f t h n))
    (λ (e : eqb t u ≡ false). let q = eqb-false t u e in inr (q, field_other m t u f q))
    (either (eqb t u))

none : (b : Bool) (y : Field) → y ≡ absent → cond b absent y ≡ absent
none true y e = refl
none false y e = e

pub field_empty : (c u : ℕ) → field_of (empty_of c) u ≡ absent
unfolding field_of empty_of
field_empty c u =
    none (eqb u 0) _ (none (eqb u 2) _ (none (eqb u 3) _ (none (eqb u 4) _ (none (eqb u 5) _ (none (eqb u 6) _ (none (eqb u 7) _ refl))))))

pub command_with : (m : Message) (t : ℕ) (f : Field) → (with_field m t f).command ≡ m.command
unfolding with_field
command_with m t f = refl

pub command_empty : (c : ℕ) → (empty_of c).command ≡ c
unfolding empty_of
command_empty c = refl

-- a type whose field is there is one that the record has
pub past : (m : Message) (t : ℕ) → 7 < t → field_of m t ≡ absent
unfolding field_of
past m t h =
    simp (
      ne_eqb t 0 (λ e. omega arith),
      ne_eqb t 2 (λ e. omega arith),
      ne_eqb t 3 (λ e. omega arith),
      ne_eqb t 4 (λ e. omega arith),
      ne_eqb t 5 (λ e. omega arith),
      ne_eqb t 6 (λ e. omega arith),
      ne_eqb t 7 (λ e. omega arith),
    )

field-1 : (m : Message) → field_of m 1 ≡ absent
unfolding field_of
field-1 m = refl

pub field_type : (m : Message) (t : ℕ) → (field_of m t).present ≡ true → (t < 8) × (t ≡ 1 → ⊥)
field_type m t p =
    elim (dec_lt t 8) [
      | yes h ↦ (h, λ e. not_both (field_of m t).present p (ap (λ (u : ℕ). (field_of m u).present) e ∙ ap (λ (f : Field). f.present) (field-1 m)))
      | no h ↦ not_both (field_of m t).present p (ap (λ (f : Field). f.present) (past m t (omega arith)))
    ]
