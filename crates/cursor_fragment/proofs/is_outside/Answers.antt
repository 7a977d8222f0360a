-- More data than the total, or the comparison with the lesser limit. Assumes nothing.
use Rattle.std.proofs.Common.{sym, ◌∙◌, arith}
use borrow.Author.Tests.{lt-ltb}
use Rattle.cursor_fragment.proofs.Laws.Fragment.{outside_large, outside_limit}
use Rattle.wire.specs.Signed.{signed}
use Rattle.cursor_fragment.proofs.is_outside.Goals as goal

pub returns-then-end-length : goal.returns-then-end-length
returns-then-end-length c = let a = c.args in lt-ltb _ _ c.if-end-length.true ∙ sym (outside_large (signed 4 a.place) a.length a.total c.if-end-length.true)

pub returns-else-end-length : goal.returns-else-end-length
returns-else-end-length c = let a = c.args in rw c.min.ensures (outside_limit a.place (omega arith) a.length a.total c.if-end-length.false)
