-- Calls for starts and continuations by value: the records are given and returned. Assumes nothing.
use Rattle.std.specs.Prelude.{ℕ, ◌≤◌, ◌≡◌, Bool, true, false, List, length, get_or, Result, Ok, Err}
use Rattle.wire.specs.Sequence.{is_newer}
use Rattle.wire.specs.Numbered.{numbered}
use Rattle.wire.specs.Status.{number_of}
use Rattle.wire.specs.declared.status.Refused.{Refused}
use Rattle.cursor_fragment.specs.Fragment.{is_start, fragment_of}
use Rattle.cursor_pointer.specs.declared.Pointer.{Pointer}
use Rattle.cursor_picture.specs.declared.Picture.{Picture}
use Rattle.cursor_picture.specs.Completeness.{completeness}
use Rattle.cursor_store.specs.declared.storing.Stored.{Stored}
use Rattle.cursor_store.specs.Judging.{of_opened}
use Rattle.cursor_store.specs.Assembling.{store_status, Outcome}
use Rattle.cursor_store.specs.Storing.{stored}
use Rattle.cursor_store.specs.Receiver.{Receiver, covers}

-- what the host keeps between the calls: both records, the picture and the marks
pub record State : Type 0 where
  pub pointer : Pointer
  pub picture : Picture
  pub image : List ℕ
  pub marks : List ℕ

abbrev pub is_accepted : Result Stored Refused → Bool
is_accepted (Ok x) = true
is_accepted (Err r) = false

-- the answer to a packet, and what picture and marks then hold
abbrev pub answered : State → List ℕ → Outcome (Result Stored Refused)
answered s packet = stored s.pointer s.picture packet s.image s.marks

-- the host keeps the records that an acceptance returns, and after a refusal those that it has
abbrev pub kept : Result Stored Refused → Pointer → Picture → List ℕ → List ℕ → State
kept (Ok x) p q image marks = record { pointer = x.pointer; picture = x.picture; image = image; marks = marks }
kept (Err r) p q image marks = record { pointer = p; picture = q; image = image; marks = marks }

-- the state after one call
unfoldable pub next : State → List ℕ → State
next s packet = kept (answered s packet).answer s.pointer s.picture (answered s packet).image (answered s packet).marks

-- the receiver that keeps its records by value; the completeness question is asked of them
abbrev pub by_value : Receiver
by_value = record {
  State = State;
  picture = λ s. s.picture;
  image = λ s. s.image;
  marks = λ s. s.marks;
  accepts = λ s packet. is_accepted (answered s packet).answer;
  next = next;
  Complete = λ s. completeness s.picture (length s.image) s.marks ≡ Ok true;
  Asked = λ s l. Unit {0};
}

-- The proofs of these laws stand in proofs/Laws/Calls.antt.

-- the number of an answer is that of the first check that refuses, 0 where none does; its place is 0
abbrev pub NumberByChecks : Type 0
NumberByChecks =
    (s : State) (packet : List ℕ) → numbered (answered s packet).answer ≡ record { number = number_of (store_status s.picture packet s.image s.marks); place = 0 }

-- a refusal changes nothing
unfoldable pub RefusalKeeps : Type 0
RefusalKeeps = (s : State) (packet : List ℕ) → is_accepted (answered s packet).answer ≡ false → next s packet ≡ s

-- an accepted fragment that neither opens a picture nor is its first start leaves the picture's record as it was
unfoldable pub PictureKept : Type 0
PictureKept =
    (s : State) (packet : List ℕ) → is_accepted (answered s packet).answer ≡ true → of_opened s.picture (fragment_of packet) ≡ true
    → (is_start packet ≡ true → s.picture.seen ≡ true) → (next s packet).picture ≡ s.picture

-- a byte that the fragment doesn't cover stays, and so does such a mark at or beyond the fragment's total; of the opened id each such
-- mark stays
unfoldable pub OutsideKept : Type 0
OutsideKept =
    (s : State) (packet : List ℕ) (i : ℕ) → covers packet i ≡ false
    → (get_or (next s packet).image i 0 ≡ get_or s.image i 0)
    × ((fragment_of packet).total ≤ i → get_or (next s packet).marks i 0 ≡ get_or s.marks i 0)
    × (of_opened s.picture (fragment_of packet) ≡ true → get_or (next s packet).marks i 0 ≡ get_or s.marks i 0)

-- once `opener` has opened its picture, a packet of another id whose sequence number is not newer than the opener's changes nothing: no
-- late fragment of the former picture opens it again
unfoldable pub FormerStaysClosed : Type 0
FormerStaysClosed =
    (s : State) (opener late : List ℕ) → is_accepted (answered s opener).answer ≡ true → of_opened s.picture (fragment_of opener) ≡ false
    → ((fragment_of opener).id ≡ (fragment_of late).id → ⊥) → is_newer true (fragment_of opener).sequence (fragment_of late).sequence ≡ false
    → (is_accepted (answered (next s opener) late).answer ≡ false) × (next (next s opener) late ≡ next s opener)
