-- The pointer (01, "Cursor packets": "a position packet that isn't newer than the last pointer sequence is 11. A newer one sets position
-- and last"). Assumes nothing.
use Rattle.std.specs.Prelude.{ℕ, ◌≡◌, Bool, true, false, not, cond, List, [], ◌∷◌, ◌++◌, ℤ, pos, Result}
use Rattle.wire.specs.Numbered.{numbered}
use Rattle.wire.specs.Sequence.{is_newer}
use Rattle.wire.specs.Status.{Status, number_of, passed, placed}
use Rattle.wire.specs.declared.status.Refusal.{Refusal}
use Rattle.wire.specs.declared.status.Refusal.TheVariants as refusal
use Rattle.wire.specs.declared.status.Refused.{Refused}
use Rattle.wire.specs.Checks.{refuse, first_of}
use Rattle.cursor_packet.specs.Position.{position_checks, position_of}
use Rattle.cursor_pointer.specs.declared.Pointer.{Pointer}

-- no position is known
unfoldable pub fresh_pointer : Pointer
fresh_pointer = record { known = false; sequence = 0; x = pos 0; y = pos 0 }

-- the sequence number is newer than the last pointer sequence; where there is none, everything is
abbrev pub pointer_moves : Pointer → ℕ → Bool
pointer_moves p sequence = is_newer p.known p.sequence sequence

-- the pointer after a packet with this sequence number and position: a newer one sets position and last
unfoldable pub moved_to : Pointer → ℕ → ℤ → ℤ → Pointer
moved_to p sequence x y = cond (pointer_moves p sequence) (record { known = true; sequence = sequence; x = x; y = y }) p

-- the call for positions: the packet's own checks, then 11
unfoldable pub position_status : Pointer → List ℕ → Status
position_status p packet = first_of (position_checks packet ++ (refuse refusal.NotNewer (not (pointer_moves p (position_of packet).sequence)) ∷ []))

-- the pointer as the packet sets it
abbrev pub positioned_to : Pointer → List ℕ → Pointer
positioned_to p packet = moved_to p (position_of packet).sequence (position_of packet).x (position_of packet).y

unfoldable pub moved_by : Pointer → List ℕ → Result Pointer Refusal
moved_by p packet = passed (position_status p packet) (positioned_to p packet)

-- the same, with the refusal's place
unfoldable pub positioned : Pointer → List ℕ → Result Pointer Refused
positioned p packet = placed (moved_by p packet) 0

-- The number of an answer is that of the first check that refuses, 0 where none does; its place is 0. The proof stands in
-- proofs/Laws/Pointer.antt.
abbrev pub NumberByChecks : Type 0
NumberByChecks = (p : Pointer) (packet : List ℕ) → numbered (positioned p packet) ≡ record { number = number_of (position_status p packet); place = 0 }

-- Sequence numbers go on from 65,535 to 0: there the pointer moves. The proof stands in proofs/Laws/Pointer.antt.
unfoldable pub WrapMoves : Type 0
WrapMoves = (p : Pointer) (x y : ℤ) → p.sequence ≡ 65535 → moved_to p 0 x y ≡ record { known = true; sequence = 0; x = x; y = y }
