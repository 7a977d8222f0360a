-- After k bytes v is the number in them, and small enough for the next one. Assumes nothing.
use Rattle.std.proofs.Common.{true}
use Rattle.wire.proofs.Laws.Digits.{Read}
use Rattle.wire.proofs.number.padded.Given as goal

abbrev pub invariant-loop-k : goal.invariant-loop-k
invariant-loop-k l = Read true l.s l.at l.n l.k l.v
