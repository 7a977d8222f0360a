-- Laws of orders of checks: the first list decides where it refuses, else the second. Assumes nothing.
use Rattle.std.proofs.Common.{◌≡◌, ℕ, Bool, true, false, cond, not, ◌&&◌, eqb, ◌↔◌, List, [], ◌∷◌, ◌++◌, sym, refl}
use Rattle.std.specs.Prelude.{Ok, Err}
use mathlib.Core.Bool.{false≢true}
use borrow.Author.Tests.{not-true, eqb-false}
use Rattle.wire.specs.declared.status.Refusal.{Refusal}
use Rattle.wire.proofs.Laws.Bool.{both, by_test}
use Rattle.wire.specs.Numbered.{numbered}
use Rattle.wire.specs.Status.{Status, accept, accepted, refusal_number, number_of, passed, placed}
use Rattle.wire.specs.Checks.{Check, refuse, first_of}

pub first_append : (cs ds : List Check) → first_of (cs ++ ds) ≡ cond (accepted (first_of cs)) (first_of ds) (first_of cs)
unfolding first_of
first_append [] ds = refl
first_append (refuse r true ∷ cs) ds = refl
first_append (refuse r false ∷ cs) ds = first_append cs ds

-- the number of an answer that has a value where its checks accept, and else their refusal at place 0
pub numbered_passed : {A : Type 0} (st : Status) (x : A) → numbered (placed (passed st x) 0) ≡ record { number = number_of st; place = 0 }
numbered_passed (Ok u) x = refl
numbered_passed (Err r) x = refl

-- what holds of a check's refusal where its condition holds, and of the checks after it where it doesn't, holds of the first refusal
pub by_check
    : (P : Status → Type 0) (r : Refusal) (b : Bool) (cs : List Check) → (b ≡ true → P (Err r)) → (b ≡ false → P (first_of cs))
    → P (first_of (refuse r b ∷ cs))
unfolding first_of
by_check P r b cs f g = by_test P b (Err r) (first_of cs) f g

pub by_last_check
    : (P : Status → Type 0) (r : Refusal) (b : Bool) → (b ≡ true → P (Err r)) → (b ≡ false → P accept) → P (first_of (refuse r b ∷ []))
unfolding first_of
by_last_check P r b f g = by_test P b (Err r) accept f g

-- A number is given exactly under its condition.

-- no check of the list gives this number
unfoldable pub lacking : ℕ → List Check → Bool
lacking n [] = true
lacking n (refuse r b ∷ cs) = not (eqb (refusal_number r) n) && lacking n cs

module _ (n : ℕ) (is-refusal : eqb 0 n ≡ false) where
  -- so the list doesn't give it
  not_given : (cs : List Check) → lacking n cs ≡ true → number_of (first_of cs) ≡ n → ⊥
  unfolding lacking first_of
  not_given [] l e = eqb-false 0 n is-refusal e
  not_given (refuse r true ∷ cs) l e = eqb-false (refusal_number r) n (not-true _ (both _ _ l).0) e
  not_given (refuse r false ∷ cs) l e = not_given cs (both _ _ l).1 e

  -- nor where it follows another: that one gives it, or none
  pub first_gives : (cs ds : List Check) → lacking n ds ≡ true → (number_of (first_of (cs ++ ds)) ≡ n) ↔ (number_of (first_of cs) ≡ n)
  unfolding first_of
  first_gives [] ds l = (λ e. absurd (not_given ds l e), λ e. absurd (eqb-false 0 n is-refusal e))
  first_gives (refuse r true ∷ cs) ds l = (λ e. e, λ e. e)
  first_gives (refuse r false ∷ cs) ds l = first_gives cs ds l

  -- a check of another number: it must not hold, and those after it decide
  pub other_first
      : (r : Refusal) (b : Bool) (cs : List Check) → eqb (refusal_number r) n ≡ false
      → (number_of (first_of (refuse r b ∷ cs)) ≡ n) ↔ ((b ≡ false) × (number_of (first_of cs) ≡ n))
  unfolding first_of
  other_first r true cs o = (λ e. absurd (eqb-false (refusal_number r) n o e), λ h. absurd (false≢true (sym h.0)))
  other_first r false cs o = (λ e. (refl, e), λ h. h.1)

  -- the check of this number, where none after it gives it
  pub own_check
      : (r : Refusal) (b : Bool) (cs : List Check) → refusal_number r ≡ n → lacking n cs ≡ true
      → (number_of (first_of (refuse r b ∷ cs)) ≡ n) ↔ (b ≡ true)
  unfolding first_of
  own_check r true cs e l = (λ g. refl, λ h. e)
  own_check r false cs e l = (λ g. absurd (not_given cs l g), λ h. absurd (false≢true h))
