-- After k bytes v is the number in them, and small enough for the next one. Assumes nothing.
use Rattle.std.proofs.Common.{true, arith}
use Rattle.wire.proofs.Laws.Digits.{none_read, one_fits, one_read}
use Rattle.wire.proofs.number.padded.Goals as goal

pub loop-k-init : goal.loop-k-init
loop-k-init c = let a = c.args in none_read true a.s.now a.at a.n

pub overflow_mul-v : goal.overflow_mul-v
overflow_mul-v c = omega (arith, one_fits c.loop-k.invariant 0 (omega arith) (omega arith) (omega arith))

pub overflow_add-v : goal.overflow_add-v
overflow_add-v c = omega (arith, one_fits c.loop-k.invariant c.byte-b.result (omega arith) (omega arith) (omega arith))

pub loop-k-preserved : goal.loop-k-preserved
loop-k-preserved c = one_read c.loop-k.invariant _ c.byte-b.ensures (omega arith) (omega arith)
