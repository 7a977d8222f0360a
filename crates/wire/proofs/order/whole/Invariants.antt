-- After k bytes `value` is the number in them, and small enough for the next one. Assumes nothing.
use Rattle.wire.proofs.Laws.Digits.{Read}
use Rattle.wire.proofs.order.whole.Given as goal

abbrev pub invariant-loop-k : goal.invariant-loop-k
invariant-loop-k l = Read l.big l.s l.at l.n l.k l.value
