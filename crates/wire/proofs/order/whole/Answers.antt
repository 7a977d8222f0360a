-- After k bytes `value` is the number in them, and small enough for the next one. Assumes nothing.
use Rattle.std.proofs.Common.{ℕ, ◌+◌, get_or, ap, arith}
use Rattle.wire.proofs.Laws.Digits.{none_read, one_fits, one_read}
use Rattle.wire.proofs.order.whole.Goals as goal

pub loop-k-init : goal.loop-k-init
loop-k-init c = let a = c.args in none_read a.big a.s.now a.at a.n

pub overflow_mul-value : goal.overflow_mul-value
overflow_mul-value c = omega (arith, one_fits c.loop-k.invariant 0 (omega arith) (omega arith) (omega arith))

pub overflow_add-value : goal.overflow_add-value
overflow_add-value c = let a = c.args in
    let i = a.at + c.place.result in
    let small = c.shared_slice_known-in-loop-k-1.given i in
    omega (arith, one_fits c.loop-k.invariant (get_or a.s.now i 0) (omega (arith, small)) (omega arith) (omega arith))

pub loop-k-preserved : goal.loop-k-preserved
loop-k-preserved c = let a = c.args in
    let place = c.place in
    let small = c.shared_slice_known-in-loop-k-1.given (a.at + place.result) in
    one_read c.loop-k.invariant _
    (ap (λ (i : ℕ). get_or a.s.now (a.at + i) 0) place.ensures.0) (omega (arith, small)) (omega arith)
