-- Position packets (003 section 2.2.2; 01, "Cursor packets": "Type 1, position: size 7; x and y, 16 bits signed"). Assumes nothing.
use Rattle.std.specs.Prelude.{ℕ, ◌≡◌, List, eqb, Result}
use Rattle.wire.specs.Number.{number}
use Rattle.wire.specs.Signed.{signed}
use Rattle.wire.specs.Status.{number_of, passed, placed}
use Rattle.wire.specs.Numbered.{numbered}
use Rattle.wire.specs.declared.status.Refused.{Refused}
use Rattle.cursor_packet.specs.declared.position.Position.{Position}
use Rattle.wire.specs.Checks.{Check, first_of}
use Rattle.cursor_packet.specs.Frame.{type_of, size_of, frame_checks}

-- the checks of the call for positions, in their order
unfoldable pub position_checks : List ℕ → List Check
position_checks p = frame_checks (eqb (type_of p) 1) (eqb (size_of p) 7) p

-- the position whose x and y stand at these places of a packet, with the packet's sequence number
unfoldable pub position_at : ℕ → ℕ → List ℕ → Position
position_at x y p = record { sequence = number 2 p 2; x = signed 2 (number 2 p x); y = signed 2 (number 2 p y) }

abbrev pub position_of : List ℕ → Position
position_of p = position_at 15 17 p

unfoldable pub read_position : List ℕ → Result Position Refused
read_position p = placed (passed (first_of (position_checks p)) (position_of p)) 0

-- The number of an answer is that of the first check that refuses, 0 where none does; its place is 0. The proof stands in
-- proofs/Laws/Position.antt.
abbrev pub NumberByChecks : Type 0
NumberByChecks = (p : List ℕ) → numbered (read_position p) ≡ record { number = number_of (first_of (position_checks p)); place = 0 }
