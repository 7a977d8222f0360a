-- A block that is passed has no hit. Assumes nothing.
use Rattle.std.proofs.Common.{rules}
use Rattle.scan.proofs.blocks.skip.Goals as goal

pub returns-clause-skipped : goal.returns-clause-skipped
returns-clause-skipped g c = λ k a b.
    let p = c.skip_until.ensures.passed k a b in
    let s = p.5 in
    search (rules, s)

pub returns-clause-stopped : goal.returns-clause-stopped
returns-clause-stopped g c = λ l. let s = c.skip_until.ensures.stopped l in search (rules, s)
