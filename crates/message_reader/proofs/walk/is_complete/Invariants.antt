-- Every type below `kind` has passed the test. Assumes nothing.
use mathlib.Core.Path.{◌≡◌}
use mathlib.Core.Bool.{true}
use Rattle.wire.specs.Below.{all_below}
use Rattle.message_reader.specs.Reading.{has_needed}
use Rattle.message_reader.specs.Values.{message_from}
use Rattle.message_reader.proofs.walk.is_complete.Given as goal

abbrev pub invariant-loop-kind : goal.invariant-loop-kind
invariant-loop-kind l = all_below l.kind (has_needed (message_from l.command l.values)) ≡ true
