-- A block more was passed. Assumes nothing.
use Rattle.std.proofs.Common.{arith, rules}
use native.Mathlib.Decide.{dec_lt}
use Rattle.scan.proofs.blocks.skip_until.Goals as goal

pub loop-k-preserved : goal.loop-k-preserved
loop-k-preserved g c =
    let l = c.loop-k in
    record {
      from_on = omega arith;
      within = omega arith;
      passed = λ j a b. elim (dec_lt j l.k) [
        | yes h ↦ l.invariant.passed j a h
        | no h ↦ (l.k, omega arith, omega arith, omega arith, omega arith, search rules)
      ];
    }
