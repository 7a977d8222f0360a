-- What is still to be written on the bytes as they are, k bytes of the rest, is what was to be written at first. Assumes nothing.
use Rattle.std.proofs.Common.{ℕ, ◌+◌, ◌-◌, ◌/◌, ◌%◌, set, sym, subst, arith}
use Rattle.wire.proofs.Laws.Digits.{Wrote, one_wrote, all_wrote, refused}
use Rattle.wire.proofs.order.write.Goals as goal

pub returns-then-out-n-clause-bytes : goal.returns-then-out-n-clause-bytes
returns-then-out-n-clause-bytes c = let a = c.args in refused a.big a.at a.n a.v a.out.now (omega arith)

pub returns-then-out-n-2-clause-bytes : goal.returns-then-out-n-2-clause-bytes
returns-then-out-n-2-clause-bytes c = let a = c.args in refused a.big a.at a.n a.v a.out.now (omega arith)

pub loop-k-preserved : goal.loop-k-preserved
loop-k-preserved c = let l = c.loop-k in
    let a = c.args in
    subst (λ (i : ℕ). Wrote a.big a.at a.n a.v a.out.now (l.k - 1) (l.rest / 256) (set l.out (a.at + i) (l.rest % 256)))
    (sym c.place.ensures.0)
    (one_wrote a.big a.at a.n a.v a.out.now l.k l.rest l.out l.invariant (omega arith) (omega arith))

pub returns-clause-bytes : goal.returns-clause-bytes
returns-clause-bytes c = let l = c.loop-k in
    let a = c.args in
    all_wrote a.big a.at a.n a.v a.out.now l.k l.rest l.out l.invariant (omega arith) (omega arith)
