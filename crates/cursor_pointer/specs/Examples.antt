-- The premises of the theorems are met. (Examples of the call for positions: cursor_store Examples.) Assumes nothing.
use Rattle.std.specs.Prelude.{◌≡◌, refl, true, pos, negsuc}
use Rattle.wire.specs.Sequence.{distance, is_newer}
use Rattle.cursor_pointer.specs.declared.Pointer.{Pointer}
use Rattle.cursor_pointer.specs.Pointer.{moved_to}

-- WrapMoves: a pointer set by the last sequence number
abbrev pub at_the_last : Pointer
at_the_last = record { known = true; sequence = 65535; x = pos 1; y = pos 2 }

pub wrap_moves : (at_the_last.sequence ≡ 65535) × (moved_to at_the_last 0 (negsuc 1) (pos 10) ≡ record { known = true; sequence = 0; x = negsuc 1; y = pos 10 })
unfolding moved_to is_newer distance
wrap_moves = (refl, refl)

-- Without a premise: NumberByChecks.
