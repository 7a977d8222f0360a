-- The call for starts and continuations: the picture's part, and then the pointer's. Assumes nothing.
use Rattle.std.specs.Prelude.{ℕ, ◌≡◌, Bool, false, cond, ◌&&◌, List, Result, Ok, Err}
use Rattle.wire.specs.Status.{refused_at}
use Rattle.wire.specs.declared.status.Refusal.{Refusal}
use Rattle.wire.specs.declared.status.Refused.{Refused}
use Rattle.cursor_fragment.specs.Fragment.{is_start}
use Rattle.cursor_fragment.specs.Start.{start_position}
use Rattle.cursor_pointer.specs.declared.Pointer.{Pointer}
use Rattle.cursor_pointer.specs.Pointer.{pointer_moves, moved_to}
use Rattle.cursor_picture.specs.declared.Picture.{Picture}
use Rattle.cursor_store.specs.declared.storing.Stored.{Stored}
use Rattle.cursor_store.specs.Assembling.{Outcome, outcome, assembled}

-- an accepted packet moves the pointer: a start that is newer
unfoldable pub moves : Pointer → List ℕ → Bool
moves p packet = is_start packet && pointer_moves p (start_position packet).sequence

-- the pointer after an accepted packet (01, "Cursor packets": "Pointer": "An accepted start does so too if newer; if not, it still stores its
-- data")
unfoldable pub pointer_after : Pointer → List ℕ → Pointer
pointer_after p packet =
    cond (is_start packet) (moved_to p (start_position packet).sequence (start_position packet).x (start_position packet).y) p

-- the picture's answer with the pointer's: an accepted packet may move it
abbrev pub answer_with : Pointer → List ℕ → Result Picture Refusal → Result Stored Refused
answer_with p packet (Ok q) = Ok (record { pointer = pointer_after p packet; picture = q })
answer_with p packet (Err r) = Err (refused_at r 0)

-- the picture's outcome, then the pointer's
abbrev pub with_pointer : Pointer → List ℕ → Outcome (Result Picture Refusal) → Outcome (Result Stored Refused)
with_pointer p packet a = outcome (answer_with p packet a.answer) a.image a.marks

unfoldable pub stored : Pointer → Picture → List ℕ → List ℕ → List ℕ → Outcome (Result Stored Refused)
stored p q packet image marks = with_pointer p packet (assembled q packet image marks)

-- A packet that doesn't move the pointer, as no continuation does, leaves it as it was. The proof stands in proofs/Laws/Storing.antt.
abbrev pub PointerKept : Type 0
PointerKept = (p : Pointer) (packet : List ℕ) → moves p packet ≡ false → pointer_after p packet ≡ p
