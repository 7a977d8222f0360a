-- The calls of the cursor stream: what each answers, and what every lent byte then is. Assumes nothing.
use Rattle.std.specs.Prelude.{ℕ, ◌≡◌, Bool, cond, ◌&&◌, List, leb, length, Result, Ok, Err}
use Rattle.wire.specs.declared.status.Refusal.TheVariants as refusal
use Rattle.wire.specs.declared.status.Refused.{Refused}
use Rattle.cursor_pointer.specs.declared.Pointer.{Pointer}
use Rattle.cursor_pointer.specs.Pointer.{positioned}
use Rattle.cursor_picture.specs.Completeness.{completeness}
use Rattle.cursor_store.specs.declared.storing.Stored.{Stored}
use Rattle.cursor_store.specs.Assembling.{Outcome}
use Rattle.cursor_store.specs.Storing.{moves, stored}
use Rattle.wire.specs.Laid.{laid}
use Rattle.cursor_layout.specs.PointerLayout.{pointer_length, pointer_bytes, pointer_of}
use Rattle.cursor_layout.specs.PictureLayout.{picture_length, picture_of, picture_left}
use Rattle.host_answers.specs.declared.Answer.{Answer}
use Rattle.host_answers.specs.declared.Yes.{Yes}
use Rattle.host_answers.specs.Answers.{accepted, refused, short, answer_of, not_answered, yes_of}

-- The call for positions.

-- an answer, with what the lent pointer then holds
pub record PositionOutcome : Type 0 where
  pub answer : Answer
  pub pointer : List ℕ

abbrev pub after_position : Answer → List ℕ → PositionOutcome
after_position r ps = record { answer = r; pointer = ps }

-- the pointer as the packet sets it goes into the record ps; a refusal changes nothing
abbrev pub pointer_set : Result Pointer Refused → List ℕ → List ℕ
pointer_set (Ok p) ps = laid (pointer_bytes p) ps
pointer_set (Err r) ps = ps

abbrev pub position_answered : Result Pointer Refused → List ℕ → PositionOutcome
position_answered a ps = after_position (answer_of a) (pointer_set a ps)

unfoldable pub cursor_position : List ℕ → List ℕ → PositionOutcome
cursor_position ps packet =
    cond (leb pointer_length (length ps)) (position_answered (positioned (pointer_of ps) packet) ps) (after_position short ps)

-- The call for starts and continuations.

-- each record has all of its bytes
unfoldable pub records_whole : ℕ → ℕ → Bool
records_whole pointer picture = leb pointer_length pointer && leb picture_length picture

-- an answer, with what the four lent slices then hold
pub record StoreOutcome : Type 0 where
  pub answer : Answer
  pub pointer : List ℕ
  pub picture : List ℕ
  pub image : List ℕ
  pub marks : List ℕ

abbrev pub after_store : Answer → List ℕ → List ℕ → List ℕ → List ℕ → StoreOutcome
after_store r ps qs image marks = record { answer = r; pointer = ps; picture = qs; image = image; marks = marks }

-- what an accepted packet leaves of the pointer's record ps: the pointer afterwards where the packet moves it, else each byte as it was
unfoldable pub pointer_left : List ℕ → Pointer → List ℕ → List ℕ
pointer_left packet after ps = cond (moves (pointer_of ps) packet) (laid (pointer_bytes after) ps) ps

-- the pointer and the picture's record, each as the packet leaves it, go into the records ps and qs; a refusal changes neither
abbrev pub store_answered : List ℕ → Result Stored Refused → List ℕ → List ℕ → List ℕ → List ℕ → StoreOutcome
store_answered packet (Ok x) ps qs image marks =
    after_store accepted (pointer_left packet x.pointer ps) (picture_left (picture_of qs) x.picture qs) image marks
store_answered packet (Err r) ps qs image marks = after_store (refused (r.refusal) (r.place)) ps qs image marks

-- with the image and the marks as the call leaves them
abbrev pub all_answered : List ℕ → Outcome (Result Stored Refused) → List ℕ → List ℕ → StoreOutcome
all_answered packet a ps qs = store_answered packet a.answer ps qs a.image a.marks

unfoldable pub cursor_store : List ℕ → List ℕ → List ℕ → List ℕ → List ℕ → StoreOutcome
cursor_store ps qs packet image marks =
    cond (records_whole (length ps) (length qs))
    (all_answered packet (stored (pointer_of ps) (picture_of qs) packet image marks) ps qs)
    (after_store short ps qs image marks)

-- The completeness question: a refusal by its number.

unfoldable pub cursor_complete : List ℕ → List ℕ → List ℕ → Yes
cursor_complete qs image marks =
    cond (leb picture_length (length qs))
    (yes_of (completeness (picture_of qs) (length image) marks))
    (not_answered refusal.NoRoom)

-- A refusal changes no lent byte: what a refused call leaves is what was lent. The proofs stand in proofs/Laws/CursorCalls.antt.

unfoldable pub PositionRefusalKeeps : Type 0
PositionRefusalKeeps =
    (ps packet : List ℕ) → ((cursor_position ps packet).answer.status ≡ 0 → ⊥)
    → cursor_position ps packet ≡ after_position (cursor_position ps packet).answer ps

unfoldable pub StoreRefusalKeeps : Type 0
StoreRefusalKeeps =
    (ps qs packet image marks : List ℕ) → ((cursor_store ps qs packet image marks).answer.status ≡ 0 → ⊥)
    → cursor_store ps qs packet image marks ≡ after_store (cursor_store ps qs packet image marks).answer ps qs image marks
