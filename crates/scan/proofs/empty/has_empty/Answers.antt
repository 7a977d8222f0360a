-- The least mark passed is 0 exactly if one of them is. Assumes nothing.
use Rattle.std.proofs.Common.{◌+◌, refl, get_or}
use Rattle.scan.specs.Below.{some_below}
use Rattle.scan.specs.Empty.{empty_at}
use Rattle.scan.proofs.Laws.Below.{least_more}
use Rattle.scan.proofs.empty.has_empty.Goals as goal

pub loop-j-init : goal.loop-j-init
unfolding some_below
loop-j-init c = refl

pub loop-j-preserved : goal.loop-j-preserved
loop-j-preserved c =
    let l = c.loop-j in
    let m = c.args.marks.now in
    let at = c.args.at in
    least_more l.j (λ j. empty_at m (at + j)) l.low (get_or m (at + l.j) 0) c.min-low.result l.invariant refl c.min-low.ensures
