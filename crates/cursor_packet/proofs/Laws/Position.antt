-- An answer has the number of the first check that refuses. Assumes nothing.
use Rattle.wire.specs.Checks.{first_of}
use Rattle.wire.proofs.Laws.Checks.{numbered_passed}
use Rattle.cursor_packet.specs.Position.{position_checks, position_of, read_position, NumberByChecks}

pub number_by_checks : NumberByChecks
unfolding read_position
number_by_checks p = numbered_passed (first_of (position_checks p)) (position_of p)
