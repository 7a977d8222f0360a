-- The greatest answer of all is 0 where no place is hit. Assumes nothing.
use Rattle.std.proofs.Common.{◌≡◌, ℕ, ◌<◌, Bool, true, false, not, eqb, refl, arith}
use Rattle.std.specs.Bool.{MatchBool}
use borrow.Author.Tests.{eqb-true, eqb-false}
use Rattle.scan.proofs.blocks.any.Goals as goal

by_greatest : (high : ℕ) (P Q : Type 0) → (0 < high → P) → (high ≡ 0 → Q) → MatchBool (not (eqb high 0)) P Q
by_greatest high P Q p q = go (eqb high 0) refl
  where
    go : (b : Bool) → eqb high 0 ≡ b → MatchBool (not b) P Q
    go true e = q (eqb-true high 0 e)
    go false e = let n = eqb-false high 0 e in p (omega arith)

pub returns : goal.returns
returns g c =
    let l = c.loop-k in
    by_greatest l.high _ _ l.invariant.some (λ h k a b. l.invariant.none h k a (omega arith))
