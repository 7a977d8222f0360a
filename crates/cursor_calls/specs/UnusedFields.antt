-- 02 §2 for the calls that hosts make: "Two packets that differ only there give the same answer and state", there being timestamp and SSRC, and
-- refusal 3 is for the first two bytes alone. The proofs stand in proofs/Laws/UnusedFields.antt. Assumes nothing.
use Rattle.std.specs.Prelude.{ℕ, ◌≤◌, ◌≡◌, true, List, ◌↔◌, length}
use Rattle.cursor_packet.specs.UnusedFields.{SameButUnused, WrongRtp}
use Rattle.cursor_picture.specs.Picture.{held}
use Rattle.cursor_layout.specs.PointerLayout.{pointer_length}
use Rattle.cursor_layout.specs.PictureLayout.{picture_of}
use Rattle.cursor_calls.specs.CursorCalls.{cursor_position, records_whole, cursor_store}

-- the same answer, and the same bytes of the pointer's record
abbrev pub PositionUnusedIgnored : Type 0
PositionUnusedIgnored = (ps a b : List ℕ) → SameButUnused a b → cursor_position ps a ≡ cursor_position ps b

-- the same answer, and the same bytes of both records, the picture and the marks
abbrev pub StoreUnusedIgnored : Type 0
StoreUnusedIgnored =
    (ps qs a b image marks : List ℕ) → SameButUnused a b → cursor_store ps qs a image marks ≡ cursor_store ps qs b image marks

-- 3 exactly for such a packet, where the record has all of its bytes
abbrev pub PositionThreeExactly : Type 0
PositionThreeExactly =
    (ps packet : List ℕ) → ((cursor_position ps packet).answer.status ≡ 3) ↔ ((pointer_length ≤ length ps) × WrongRtp packet)

-- and where 17 doesn't apply
abbrev pub StoreThreeExactly : Type 0
StoreThreeExactly =
    (ps qs packet image marks : List ℕ)
    → ((cursor_store ps qs packet image marks).answer.status ≡ 3)
    ↔ ((records_whole (length ps) (length qs) ≡ true) × ((held (picture_of qs) (length image) (length marks) ≡ true) × WrongRtp packet))
