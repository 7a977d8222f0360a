-- A type that is not needed may be absent. Assumes nothing.
use mathlib.Core.Path.{sym}
use borrow.Author.Tests.{not-true}
use Rattle.message_reader.specs.Reading.{has_needed}
use Rattle.message_reader.specs.Values.{message_from}
use Rattle.message_reader.proofs.walk.has_needed.Goals as goal

pub returns-then-ne : goal.returns-then-ne
unfolding has_needed message_from
returns-then-ne c = simp (c.if-ne.true, ← c.role.ensures, not-true _ (sym c.if-ne.ensures))
