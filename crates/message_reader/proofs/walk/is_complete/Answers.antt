-- A type that fails the test. Assumes nothing.
use mathlib.Core.Path.{sym, ◌∙◌}
use Rattle.wire.proofs.Laws.Below.{one_below}
use Rattle.message_reader.specs.Reading.{is_complete}
use Rattle.message_reader.proofs.walk.is_complete.Goals as goal

pub returns-then-not-has_needed : goal.returns-then-not-has_needed
unfolding is_complete
returns-then-not-has_needed c = let l = c.loop-kind in
    sym (one_below _ 8 l.kind c.loop-kind-test.true (sym c.has_needed.ensures ∙ c.if-not-has_needed.true))
