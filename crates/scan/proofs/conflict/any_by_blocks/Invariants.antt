-- No place below k conflicts. Assumes nothing.
use Rattle.std.proofs.Common.{◌≡◌, ℕ, ◌-◌, ◌≤◌, ◌<◌, false}
use Rattle.scan.specs.Conflict.{conflict_at}
use Rattle.scan.proofs.conflict.any_by_blocks.Given as goal

abbrev pub invariant-loop-k : goal.invariant-loop-k
invariant-loop-k l = record { within : l.k ≤ l.n; none : (j : ℕ) → j < l.k → conflict_at l.marks l.old l.new j ≡ false }

abbrev pub decreases-loop-k : goal.decreases-loop-k
decreases-loop-k l = l.n - l.k
