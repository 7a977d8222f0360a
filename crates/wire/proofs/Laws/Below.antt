-- Laws of `all_below`. Assumes nothing.
use Rattle.std.proofs.Common.{◌≡◌, ℕ, zero, suc, ◌+◌, ◌<◌, Bool, true, false, ◌&&◌, eqb, ltb, List, length, get_or, sym, refl, ◌∙◌, subst, ⊎_elim, add-one, arith, ltb-true, eqb-true}
use lib.ListN.{get_or-eq_default}
use native.Mathlib.Decide.{dec_lt}
use Rattle.wire.specs.Below.{all_below}
use Rattle.wire.specs.Number.{Bytes}
use Rattle.wire.proofs.Laws.Bool.{either, not_both, and_false}

module _ (p : ℕ → Bool) where
  pub below_none : all_below 0 p ≡ true
  unfolding all_below
  below_none = refl

  -- one number more
  pub below_next : (n : ℕ) → all_below n p ≡ true → p n ≡ true → all_below (n + 1) p ≡ true
  unfolding all_below
  below_next n e h = rw add-one (simp (e, h))

  -- it holds of each, so of every
  pub all_below_lem : (n : ℕ) → ((k : ℕ) → k < n → p k ≡ true) → all_below n p ≡ true
  unfolding all_below
  all_below_lem zero h = refl
  all_below_lem (suc n) h = simp (all_below_lem n (λ k l. h k (omega arith)), h n (omega arith))

  -- it fails of one
  pub one_below : (n k : ℕ) → k < n → p k ≡ false → all_below n p ≡ false
  unfolding all_below
  one_below zero k l e = absurd (let no : ⊥ = omega arith in no)
  one_below (suc n) k l e =
      elim (dec_lt k n) [
        | yes less ↦ simp (one_below n k less e)
        | no less ↦ let last : k ≡ n = omega arith in simp (subst (λ (j : ℕ). p j ≡ false) last e) (and_false (all_below n p))
      ]

  -- where it does not hold of every, it fails of one
  pub one_fails : (n : ℕ) → all_below n p ≡ false → (k : ℕ) × (k < n) × (p k ≡ false)
  unfolding all_below
  one_fails zero a = not_both true refl a
  one_fails (suc n) a =
      ⊎_elim
      (λ (e : p n ≡ true). let r = one_fails n (only e (all_below n p) a) in (r.0, omega arith, r.2))
      (λ (e : p n ≡ false). (n, omega arith, e))
      (either (p n))
    where
      only : p n ≡ true → (b : Bool) → b && p n ≡ false → b ≡ false
      only e true f = not_both (p n) e f
      only e false f = refl

  -- it holds of every, so of each
  pub below_all : (n : ℕ) → all_below n p ≡ true → (k : ℕ) → k < n → p k ≡ true
  below_all n h k l = go (p k) refl
    where
      go : (b : Bool) → p k ≡ b → b ≡ true
      go true e = refl
      go false e = sym (one_below n k l e) ∙ h

-- a rule computed at every number below n
pub computed : (n : ℕ) (f g : ℕ → ℕ) → all_below n (λ k. eqb (f k) (g k)) ≡ true → (k : ℕ) → k < n → f k ≡ g k
computed n f g e k l = eqb-true (f k) (g k) (below_all (λ i. eqb (f i) (g i)) n e k l)

-- every element of a list is a byte, computed
pub bytes_computed : (s : List ℕ) → all_below (length s) (λ k. ltb (get_or s k 0) 256) ≡ true → Bytes s
bytes_computed s e k = elim (dec_lt k (length s)) [
  | yes l ↦ ltb-true (get_or s k 0) 256 (below_all (λ i. ltb (get_or s i 0) 256) (length s) e k l)
  | no l ↦ let past = get_or-eq_default s 0 {n = k} (omega arith) in omega arith
]
