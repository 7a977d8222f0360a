-- What is still to be written on the bytes as they are, k bytes of the rest, is what was to be written at first. Assumes nothing.
use Rattle.wire.proofs.Laws.Digits.{Wrote}
use Rattle.wire.proofs.order.write.Given as goal

abbrev pub invariant-loop-k : goal.invariant-loop-k
invariant-loop-k l = Wrote l.big l.at l.n l.v l.initial.out l.k l.rest l.out
