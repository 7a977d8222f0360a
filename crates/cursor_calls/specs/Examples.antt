-- The premises of the theorems are met, by small calls over lent records. Those that end in `refl` are computed here; the proofs of the others
-- stand in proofs/Laws/Examples.antt. Assumes nothing.
use Rattle.std.specs.Prelude.{ℕ, ◌≤◌, ◌≡◌, refl, true, List, [], ◌∷◌, ◌++◌, length}
use Rattle.std.proofs.Common.{inl, inr, arith}
use Rattle.wire.specs.Below.{all_below}
use Rattle.wire.specs.Checks.{first_of}
use Rattle.wire.specs.LittleEndian.{number_at}
use Rattle.wire.specs.Number.{number_in, bytes_in, Bytes}
use Rattle.wire.specs.Sequence.{is_newer, distance}
use Rattle.wire.specs.Signed.{signed, unsigned}
use Rattle.wire.specs.Laid.{laid}
use Rattle.wire.specs.Splice.{splice}
use Rattle.wire.proofs.Laws.Below.{bytes_computed}
use Rattle.scan.specs.Below.{some_below}
use Rattle.scan.specs.Conflict.{conflict_in}
use Rattle.scan.specs.Empty.{first_empty}
use Rattle.scan.specs.Order.{lesser}
use Rattle.cursor_packet.specs.Frame.{frame_checks}
use Rattle.cursor_packet.specs.Rtp.{rtp_holds}
use Rattle.cursor_packet.specs.Position.{position_checks, position_at}
use Rattle.cursor_packet.specs.UnusedFields.{SameButUnused, WrongRtp}
use Rattle.cursor_packet.specs.Examples.{filled, beginning}
use Rattle.cursor_fragment.specs.Fragment.{takes_type, header_length, image_data, offset_bits, place_of, outside, fragment_frame, fragment_checks, fragment_as}
use Rattle.cursor_fragment.specs.Start.{start_of, no_start, start_in, same_start}
use Rattle.cursor_pointer.specs.Pointer.{moved_to, position_status, moved_by, positioned}
use Rattle.cursor_picture.specs.Picture.{same_picture, has_room, held}
use Rattle.cursor_picture.specs.Completeness.{first_empty_of, completeness}
use Rattle.cursor_layout.specs.PointerLayout.{pointer_length, pointer_bytes, pointer_of}
use Rattle.cursor_layout.specs.PictureLayout.{start_bytes, picture_bytes, picture_of, picture_left, PictureFits}
use Rattle.cursor_store.specs.Judging.{of_opened, start_differs, bytes_differ, opened_rules, other_rules, judging}
use Rattle.cursor_store.specs.Assembling.{store_checks, store_status, opened_for, cleared_for, image_after, marks_after, with_start, picture_after, assembled_as, assembled}
use Rattle.cursor_store.specs.Storing.{moves, pointer_after, stored}
use Rattle.cursor_store.specs.Receiver.{run}
use Rattle.cursor_store.specs.DemandThree.{Given, SameFragments, SameEnd}
use Rattle.cursor_store.specs.Examples.{position9, whole, opened, start, last, forwards, backwards}
use Rattle.cursor_calls.specs.CursorCalls.{after_position, cursor_position, records_whole, pointer_left, after_store, cursor_store, cursor_complete}
use Rattle.cursor_calls.specs.Records.{Lent, called, next_lent, over_records}

-- The records of `cursor_store Examples.opened`, with flags of 7, and a pointer of sequence number 100 at (5, −6), which the list's starts are
-- older than.
abbrev pub lent : Lent
lent = record {
  pointer = 7 ∷ 100 ∷ 0 ∷ 5 ∷ 0 ∷ 0xfa ∷ 0xff ∷ [];
  picture = 7 ∷ 9 ∷ 0 ∷ 4 ∷ 0 ∷ 0 ∷ 0 ∷ 40 ∷ 0 ∷ 0 ∷ 0 ∷ 0 ∷ 0 ∷ 0 ∷ 0 ∷ [];
  image = opened.image;
  marks = opened.marks;
}

-- PositionRefusalKeeps: a packet with the pointer's own sequence number is 11
pub position_refused : cursor_position (1 ∷ 5 ∷ 0 ∷ 0 ∷ 0 ∷ 0 ∷ 0 ∷ []) position9 ≡ after_position (record { status = 11; place = 0 }) (1 ∷ 5 ∷ 0 ∷ 0 ∷ 0 ∷ 0 ∷ 0 ∷ [])
unfolding cursor_position positioned moved_by position_status moved_to is_newer distance position_checks position_at first_of frame_checks rtp_holds number_in number_at signed pointer_of
position_refused = refl

-- StoreRefusalKeeps: a packet of no bytes is 1
pub store_refused : called lent [] ≡ after_store (record { status = 1; place = 0 }) lent.pointer lent.picture lent.image lent.marks
unfolding cursor_store records_whole stored assembled assembled_as store_status store_checks held has_room judging opened_rules other_rules of_opened fragment_checks fragment_frame first_of frame_checks takes_type header_length image_data offset_bits place_of outside fragment_as number_in number_at signed picture_of pointer_of
store_refused = refl

-- a continuation of the opened id is stored, and each byte of both records stays
pub records_stay
    : called lent (last 32)
    ≡ after_store (record { status = 0; place = 0 }) lent.pointer lent.picture lent.image (0 ∷ 0 ∷ 0 ∷ 1 ∷ 7 ∷ [])
unfolding cursor_store records_whole pointer_left picture_left same_picture same_start moves stored assembled assembled_as store_status store_checks held has_room judging opened_rules other_rules of_opened start_differs bytes_differ conflict_in some_below lesser is_newer distance opened_for cleared_for image_after marks_after with_start picture_after pointer_after splice fragment_checks fragment_frame first_of frame_checks rtp_holds number_in number_at signed takes_type header_length image_data start_of no_start start_in offset_bits place_of outside fragment_as picture_of pointer_of
records_stay = refl

-- 02 §2: timestamp and SSRC filled, and wrong first bytes.

-- PositionUnusedIgnored: P9, and P9 so filled, which is taken as P9 is
pub position_filled
    : SameButUnused position9 (beginning 0x80 0)
    × (cursor_position (1 ∷ 4 ∷ 0 ∷ 0 ∷ 0 ∷ 0 ∷ 0 ∷ []) (beginning 0x80 0)
    ≡ after_position (record { status = 0; place = 0 }) (1 ∷ 5 ∷ 0 ∷ 0xfe ∷ 0xff ∷ 0x0a ∷ 0 ∷ []))
unfolding cursor_position positioned moved_by position_status moved_to is_newer distance position_checks position_at first_of frame_checks rtp_holds number_in number_at bytes_in laid splice signed unsigned pointer_of pointer_bytes
position_filled = (record { as_long = refl; before = refl; after = refl }, refl)

abbrev pub last_filled : List ℕ
last_filled = filled 32 ++ (3 ∷ 0 ∷ 14 ∷ 0 ∷ 0 ∷ 0 ∷ 4 ∷ 0 ∷ 9 ∷ 0 ∷ 0 ∷ 0 ∷ 3 ∷ 68 ∷ [])

-- StoreUnusedIgnored: the same continuation, and the same so filled
pub store_filled
    : SameButUnused (last 32) last_filled
    × (called lent last_filled ≡ after_store (record { status = 0; place = 0 }) lent.pointer lent.picture lent.image (0 ∷ 0 ∷ 0 ∷ 1 ∷ 7 ∷ []))
unfolding cursor_store records_whole pointer_left picture_left same_picture same_start moves stored assembled assembled_as store_status store_checks held has_room judging opened_rules other_rules of_opened start_differs bytes_differ conflict_in some_below lesser is_newer distance opened_for cleared_for image_after marks_after with_start picture_after pointer_after splice fragment_checks fragment_frame first_of frame_checks rtp_holds number_in number_at signed takes_type header_length image_data start_of no_start start_in offset_bits place_of outside fragment_as picture_of pointer_of
store_filled = (record { as_long = refl; before = refl; after = refl }, refl)

-- PositionThreeExactly: the first byte is 81 hex
pub position_three
    : (pointer_length ≤ length lent.pointer) × WrongRtp (beginning 0x81 0)
    × (cursor_position lent.pointer (beginning 0x81 0) ≡ after_position (record { status = 3; place = 0 }) lent.pointer)
unfolding cursor_position positioned moved_by position_status moved_to is_newer distance position_checks position_at first_of frame_checks rtp_holds number_in number_at signed pointer_of
position_three = (omega arith, (omega arith, inl (λ e. omega arith)), refl)

-- StoreThreeExactly: the second byte is 1
pub store_three
    : (records_whole (length lent.pointer) (length lent.picture) ≡ true)
    × (held (picture_of lent.picture) (length lent.image) (length lent.marks) ≡ true) × WrongRtp (beginning 0x80 1)
    × (called lent (beginning 0x80 1) ≡ after_store (record { status = 3; place = 0 }) lent.pointer lent.picture lent.image lent.marks)
unfolding cursor_store records_whole stored assembled assembled_as store_status store_checks held has_room judging opened_rules other_rules of_opened fragment_checks fragment_frame first_of frame_checks rtp_holds takes_type header_length image_data offset_bits place_of outside fragment_as number_in number_at signed picture_of pointer_of
store_three = (refl, refl, (omega arith, inr (λ e. omega arith)), refl)

-- StoredFits: the record opened by value, and a start
pub stored_fits : PictureFits opened.picture × Bytes (start 30 1)
unfolding all_below
stored_fits = (
  record { id = omega arith; total = omega arith; opening = omega arith; image = omega arith; x = omega arith; y = omega arith },
  bytes_computed (start 30 1) refl,
)

-- RunDecoded, DemandThreeOverRecords: the premises of demand 3 hold of these records and of both lists of `cursor_store Examples`
abbrev pub PremisesMet : Type 0
PremisesMet = Given over_records whole lent forwards × Given over_records whole lent backwards × SameFragments forwards backwards

abbrev pub SameFromBoth : Type 0
SameFromBoth = SameEnd over_records (run over_records lent forwards) (run over_records lent backwards)

-- what both leave, computed: the picture's record in its usual form, since its start was seen, and the pointer's as it was
pub ends_with
    : (run over_records lent forwards
    ≡ record {
      pointer = lent.pointer;
      picture = 1 ∷ 9 ∷ 0 ∷ 4 ∷ 0 ∷ 0 ∷ 0 ∷ 40 ∷ 0 ∷ 1 ∷ 3 ∷ 1 ∷ 0 ∷ 2 ∷ 0 ∷ [];
      image = 65 ∷ 66 ∷ 67 ∷ 68 ∷ 99 ∷ [];
      marks = 1 ∷ 1 ∷ 1 ∷ 1 ∷ 7 ∷ [];
    })
    × (run over_records lent backwards ≡ run over_records lent forwards)
    × ((cursor_complete (run over_records lent forwards).picture (run over_records lent forwards).image (run over_records lent forwards).marks).yes ≡ true)
unfolding run next_lent cursor_store cursor_complete records_whole pointer_left picture_left same_picture same_start moves stored assembled assembled_as store_status store_checks held has_room judging opened_rules other_rules of_opened start_differs bytes_differ conflict_in some_below lesser is_newer distance moved_to opened_for cleared_for image_after marks_after with_start picture_after pointer_after splice laid fragment_checks fragment_frame first_of frame_checks rtp_holds number_in number_at bytes_in signed takes_type header_length image_data start_of no_start start_in offset_bits place_of outside fragment_as picture_of pointer_of picture_bytes start_bytes first_empty_of first_empty completeness position_at
ends_with = (refl, refl, refl)
