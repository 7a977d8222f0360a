-- A refused question says no. Assumes nothing.
use Rattle.cursor_host.proofs.Laws.Complete.{refused_no}
use Rattle.cursor_host.proofs.Host.complete.Goals as goal

pub returns-else-status-eq0-clause-answer : goal.returns-else-status-eq0-clause-answer
returns-else-status-eq0-clause-answer g c = refused_no _ _ _ _ c.complete-status.ensures c.if-status-eq0.false
