-- The call for positions: packets of the same parts move the pointer alike, and 3 is for the first two bytes alone (02 §2). Assumes nothing.
use Prim.Native.Nat.{ℕ}
use mathlib.Core.Path.{◌≡◌, refl}
use mathlib.Core.Bool.{not}
use mathlib.Core.List.{List, [], ◌∷◌}
use mathlib.Core.Logic.Iff
use mathlib.Core.Logic.{◌↔◌}
use native.Mathlib.Omega.{arith}
use lib.Dec.{eqb}
use Rattle.wire.specs.Status.{number_of}
use Rattle.wire.specs.declared.status.Refusal.TheVariants as refusal
use Rattle.wire.specs.Checks.{refuse}
use Rattle.wire.proofs.Laws.Checks.{lacking, first_gives}
use Rattle.cursor_packet.specs.Frame.{type_of, size_of}
use Rattle.cursor_packet.specs.Position.{position_checks, position_of}
use Rattle.cursor_packet.specs.UnusedFields.{PartsAlike, WrongRtp}
use Rattle.cursor_packet.proofs.Laws.UnusedFields.{three_exactly, position_checks_alike, position_alike}
use Rattle.cursor_pointer.specs.declared.Pointer.{Pointer}
use Rattle.cursor_pointer.specs.Pointer.{pointer_moves, position_status, moved_by, positioned}

pub positioned_alike : (p : Pointer) (a b : List ℕ) → PartsAlike a b → positioned p a ≡ positioned p b
unfolding positioned moved_by position_status
positioned_alike p a b r = rw (position_checks_alike a b r, position_alike a b r 15 17 (omega arith) (omega arith))

pub three_at_position : (p : Pointer) (packet : List ℕ) → (number_of (position_status p packet) ≡ 3) ↔ WrongRtp packet
unfolding position_status position_checks lacking
three_at_position p packet =
    Iff.trans
    (first_gives 3 refl (position_checks packet) (refuse refusal.NotNewer (not (pointer_moves p (position_of packet).sequence)) ∷ []) refl)
    (three_exactly (eqb (type_of packet) 1) (eqb (size_of packet) 7) packet)
