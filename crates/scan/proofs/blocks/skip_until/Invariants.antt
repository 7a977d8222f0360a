-- The blocks before k were passed. Assumes nothing.
use Rattle.std.proofs.Common.{◌-◌, ◌≤◌}
use Rattle.scan.specs.Blocks.{AllPassed}
use Rattle.scan.proofs.blocks.skip_until.Given as goal

abbrev pub invariant-loop-k : goal.invariant-loop-k
invariant-loop-k g l = record {
  from_on : l.from ≤ l.k;
  within : l.k ≤ l.n;
  passed : AllPassed (goal.F-post g l.stop) l.size l.n l.from l.k;
}

abbrev pub decreases-loop-k : goal.decreases-loop-k
decreases-loop-k g l = l.n - l.k
