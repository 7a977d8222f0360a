-- Laws of `some_below`: what it says of each number. Assumes nothing.
use Rattle.std.proofs.Common.{◌≡◌, ℕ, zero, suc, ◌+◌, ◌-◌, ◌≤◌, ◌<◌, Bool, true, false, not, ◌||◌, eqb, min, refl, sym, ap, subst, ◌∙◌, add-one, arith}
use Rattle.std.proofs.lemmas.Bool.Decides.{nat_tests}
use borrow.Author.Tests.{ne_eqb}
use Rattle.std.specs.Bool.{MatchBool}
use Rattle.scan.specs.Below.{some_below}
use Rattle.scan.specs.Blocks.{SomeHit, NoneHit}

-- where p holds of none below n, it is false of each
pub none_below : (n : ℕ) (p : ℕ → Bool) → some_below n p ≡ false → (k : ℕ) → k < n → p k ≡ false
unfolding some_below
none_below zero p e k l = absurd (omega arith)
none_below (suc n) p e k l = grind (arith, none_below n p)

pub below_none : (n : ℕ) (p : ℕ → Bool) → ((k : ℕ) → k < n → p k ≡ false) → some_below n p ≡ false
unfolding some_below
below_none zero p h = refl
below_none (suc n) p h = simp (h n (omega arith)) (below_none n p (λ k l. h k (omega arith)))

-- where p holds of one below n
pub some_at : (n : ℕ) (p : ℕ → Bool) (k : ℕ) → k < n → p k ≡ true → some_below n p ≡ true
unfolding some_below
some_at n p k l e = go (some_below n p) refl
  where
    go : (b : Bool) → some_below n p ≡ b → b ≡ true
    go true q = refl
    go false q = let f = none_below n p q k l in cc

-- p holds of one below n where a place among those is hit, and p says which are
pub some_hit
    : (n : ℕ) (p : ℕ → Bool) (hits : ℕ → ℕ → Type 0) (from to : ℕ) → to ≤ n → ((k m : ℕ) → hits k m → not (eqb m 0) ≡ p k)
    → SomeHit hits from to → some_below n p ≡ true
some_hit n p hits from to l e (k, m, a, b, w, o) = some_at n p k (omega arith) (sym (e k m w) ∙ ap not (ne_eqb m 0 (λ z. omega arith)))

-- p holds of one below n exactly where one of all those is hit
pub all_hits
    : (n : ℕ) (p : ℕ → Bool) (hits : ℕ → ℕ → Type 0) (r : Bool) → ((k m : ℕ) → hits k m → not (eqb m 0) ≡ p k)
    → MatchBool r (SomeHit hits 0 n) (NoneHit hits 0 n) → r ≡ some_below n p
all_hits n p hits true e h = sym (some_hit n p hits 0 n (omega arith) e h)
all_hits n p hits false e h = sym (below_none n p (λ k l. sym (e k 0 (h k (omega arith) l))))

-- the lesser of two numbers is 0 where one of them is
pub min_zero : (a b : ℕ) → eqb (min a b) 0 ≡ (eqb b 0 || eqb a 0)
min_zero a b = grind (arith, nat_tests)

-- a number more: where the least of numbers is 0 exactly if p holds of one below n, so it is with one more
pub least_more
    : (n : ℕ) (p : ℕ → Bool) (low m r : ℕ) → eqb low 0 ≡ some_below n p → eqb m 0 ≡ p n → r ≡ min low m → eqb r 0 ≡ some_below (n + 1) p
unfolding some_below
least_more n p low m r e f g = rw (g, min_zero, e, f, add-one)

-- where p holds of none in a block, it is false of each there
pub none_in_block
    : (p : ℕ → Bool) (k size j : ℕ) → k ≤ j → j < k + size → false ≡ some_below size (λ i. p (k + i)) → p j ≡ false
none_in_block p k size j a b e =
    let m : k + (j - k) ≡ j = omega arith in
    subst (λ (i : ℕ). p i ≡ false) m (none_below size (λ i. p (k + i)) (sym e) (j - k) (omega arith))
