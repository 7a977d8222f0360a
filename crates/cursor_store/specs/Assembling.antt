-- The picture's part of the call for starts and continuations: its checks in their order, and what an accepted fragment leaves (01, "Cursor
-- packets": "Picture"). Assumes nothing.
use Rattle.std.specs.Prelude.{ℕ, ◌≡◌, true, false, not, cond, List, ◌∷◌, ◌++◌, length, replicate, Result, Ok, Err}
use Rattle.wire.specs.Splice.{splice}
use Rattle.wire.specs.Status.{Status}
use Rattle.wire.specs.declared.status.Refusal.{Refusal}
use Rattle.wire.specs.declared.status.Refusal.TheVariants as refusal
use Rattle.wire.specs.Checks.{Check, refuse, first_of}
use Rattle.cursor_fragment.specs.Fragment.{is_start, fragment_checks, starts, own_fields, fragment_of, data_of}
use Rattle.cursor_fragment.specs.Start.{no_start}
use Rattle.cursor_fragment.specs.declared.Fragment.{Fragment}
use Rattle.cursor_picture.specs.declared.Picture.{Picture}
use Rattle.cursor_picture.specs.Picture.{held}
use Rattle.cursor_store.specs.Judging.{of_opened, judging, with_sequence}

-- The call: "17 where a picture is lent; fewer than 15 bytes 1; RTP 3; type 4; PacketMsgSize below its header .. 2; too few bytes 1; too
-- many 2; 9; 10; then the rules below".
unfoldable pub store_checks : Picture → List ℕ → List ℕ → List ℕ → List Check
store_checks q packet image marks =
    refuse refusal.ImageNotHeld (not (held q (length image) (length marks)))
    ∷ (fragment_checks (is_start packet) packet ++ judging q (fragment_of packet) (data_of packet) image marks)

unfoldable pub store_status : Picture → List ℕ → List ℕ → List ℕ → Status
store_status q packet image marks = first_of (store_checks q packet image marks)

-- Opening: "marks of places 0 to total − 1 become 0, start fields 0 and unseen".

-- the record of a picture that the fragment opens
unfoldable pub opened_by : Fragment → Picture
opened_by f = record { opened = true; id = f.id; total = f.total; opening = f.sequence; seen = false; start = no_start }

-- the record after any opening: of the opened id, the picture stays; of another, the fragment opens its own
unfoldable pub opened_for : Picture → Fragment → Picture
opened_for q f = cond (of_opened q f) q (opened_by f)

-- the marks after any opening
unfoldable pub cleared_for : Picture → Fragment → List ℕ → List ℕ
cleared_for q f marks = cond (of_opened q f) marks (splice 0 (replicate f.total 0) marks)

-- Storing: "its data goes into the middle of the picture at its offset, and each place in the range gets mark 1".

unfoldable pub image_after : Fragment → List ℕ → List ℕ → List ℕ
image_after f ds image = splice f.offset ds image

unfoldable pub marks_after : Picture → Fragment → List ℕ → List ℕ → List ℕ
marks_after q f ds marks = splice f.offset (replicate (length ds) 1) (cleared_for q f marks)

-- a start's own fields are kept
unfoldable pub with_start : Fragment → Picture → Picture
with_start f q =
    cond (starts f)
    (record { opened = q.opened; id = q.id; total = q.total; opening = q.opening; seen = true; start = own_fields f })
    q

unfoldable pub picture_after : Picture → Fragment → Picture
picture_after q f = with_start f (opened_for q f)

-- an answer, with what the lent picture and marks then hold
pub record Outcome (A : Type 0) : Type 0 where
  pub answer : A
  pub image : List ℕ
  pub marks : List ℕ

abbrev pub outcome : {A : Type 0} → A → List ℕ → List ℕ → Outcome A
outcome r image marks = record { answer = r; image = image; marks = marks }

-- what a call does whose checks give this status: all of it where they accept, else nothing
unfoldable pub assembled_as : Status → Picture → Fragment → List ℕ → List ℕ → List ℕ → Outcome (Result Picture Refusal)
assembled_as (Ok u) q f ds image marks = outcome (Ok (picture_after q f)) (image_after f ds image) (marks_after q f ds marks)
assembled_as (Err r) q f ds image marks = outcome (Err r) image marks

-- a fragment judged by itself
unfoldable pub fragment_assembled : Picture → Fragment → List ℕ → List ℕ → List ℕ → Outcome (Result Picture Refusal)
fragment_assembled q f ds image marks = assembled_as (first_of (judging q f ds image marks)) q f ds image marks

unfoldable pub assembled : Picture → List ℕ → List ℕ → List ℕ → Outcome (Result Picture Refusal)
assembled q packet image marks = assembled_as (store_status q packet image marks) q (fragment_of packet) (data_of packet) image marks

-- A fragment of the opened id does the same whatever its sequence number. The proof stands in proofs/Laws/Assembling.antt.
unfoldable pub OldFragmentStored : Type 0
OldFragmentStored =
    (n : ℕ) (q : Picture) (f : Fragment) (ds image marks : List ℕ) → of_opened q f ≡ true
    → fragment_assembled q (with_sequence n f) ds image marks ≡ fragment_assembled q f ds image marks
