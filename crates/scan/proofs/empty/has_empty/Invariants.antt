-- The least mark passed is 0 exactly if one of them is. Assumes nothing.
use Rattle.std.proofs.Common.{◌≡◌, ◌+◌, eqb}
use Rattle.scan.specs.Below.{some_below}
use Rattle.scan.specs.Empty.{empty_at}
use Rattle.scan.proofs.empty.has_empty.Given as goal

abbrev pub invariant-loop-j : goal.invariant-loop-j
invariant-loop-j l = eqb l.low 0 ≡ some_below l.j (λ j. empty_at l.marks (l.at + j))
