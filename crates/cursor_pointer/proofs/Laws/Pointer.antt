-- The call for positions in two steps: the packet is read, and then it must be newer. Sequence numbers wrap. Assumes nothing.
use Prim.Native.Nat.{ℕ}
use mathlib.Core.Path.{◌≡◌, refl}
use mathlib.Core.Bool.{Bool, true, false, not, cond}
use mathlib.Core.List.{List, [], ◌∷◌}
use Rattle.wire.specs.Sequence.{distance, is_newer}
use Rattle.std.specs.Prelude.{Err}
use Rattle.wire.specs.declared.status.Refusal.TheVariants as refusal
use Rattle.wire.specs.Status.{accept, accepted}
use Rattle.wire.specs.Checks.{refuse, first_of}
use Rattle.cursor_packet.specs.Position.{position_checks, position_of}
use Rattle.wire.proofs.Laws.Checks.{first_append, numbered_passed}
use Rattle.cursor_pointer.specs.declared.Pointer.{Pointer}
use Rattle.cursor_pointer.specs.Pointer.{pointer_moves, moved_to, position_status, positioned_to, moved_by, positioned, NumberByChecks, WrapMoves}

pub position_status_lem
    : (p : Pointer) (packet : List ℕ)
    → position_status p packet
    ≡ cond (accepted (first_of (position_checks packet))) (cond (not (pointer_moves p (position_of packet).sequence)) (Err refusal.NotNewer) accept)
    (first_of (position_checks packet))
unfolding position_status first_of
position_status_lem p packet = first_append (position_checks packet) (refuse refusal.NotNewer (not (pointer_moves p (position_of packet).sequence)) ∷ [])

-- 0 after 65,535
pub wrap_newer : (known : Bool) → is_newer known 65535 0 ≡ true
unfolding is_newer distance
wrap_newer true = refl
wrap_newer false = refl

pub wrap_moves : WrapMoves
unfolding WrapMoves moved_to
wrap_moves p x y e = rw (e, wrap_newer p.known)

pub number_by_checks : NumberByChecks
unfolding positioned moved_by
number_by_checks p packet = numbered_passed (position_status p packet) (positioned_to p packet)
