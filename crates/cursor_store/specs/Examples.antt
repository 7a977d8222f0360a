-- Small examples of the definitions of this crate, `cursor_pointer` and `cursor_picture`, P9 and P10 of 01, "Proved table of small examples", among them.
-- Those that end in `refl` are computed here; the proofs of `PremisesMet` and `SameFromBoth` stand in proofs/Laws/Examples.antt.
use Rattle.std.specs.Prelude.{ℕ, ◌≤◌, ◌≡◌, refl, true, false, List, [], ◌∷◌, ◌++◌, pos, negsuc, Ok, Err}
use Rattle.std.proofs.Common.{arith}
use Rattle.wire.specs.Number.{number_in}
use Rattle.wire.specs.Sequence.{distance, is_newer}
use Rattle.wire.specs.Signed.{signed}
use Rattle.wire.specs.Splice.{splice}
use Rattle.wire.specs.declared.status.Refusal.TheVariants as refusal
use Rattle.wire.specs.Status.{accept, refused_at}
use Rattle.wire.specs.Numbered.{numbered}
use Rattle.scan.specs.Below.{some_below}
use Rattle.scan.specs.Conflict.{conflict_in}
use Rattle.scan.specs.Empty.{first_empty}
use Rattle.scan.specs.Order.{lesser}
use Rattle.wire.specs.Checks.{first_of}
use Rattle.cursor_packet.specs.Frame.{frame_checks}
use Rattle.cursor_packet.specs.Rtp.{rtp_holds}
use Rattle.cursor_packet.specs.Position.{position_checks, position_at}
use Rattle.cursor_fragment.specs.Fragment.{takes_type, header_length, image_data, offset_bits, place_of, outside, fragment_frame, fragment_checks, fragment_as, fragment_of, data_of}
use Rattle.cursor_fragment.specs.Start.{start_of, no_start, start_in, same_start}
use Rattle.cursor_pointer.specs.Pointer.{fresh_pointer, moved_to, position_status, moved_by, positioned}
use Rattle.cursor_picture.specs.Picture.{fresh_picture, has_room, held}
use Rattle.cursor_picture.specs.Completeness.{first_empty_of, completeness}
use Rattle.cursor_store.specs.Judging.{of_opened, start_differs, bytes_differ, opened_rules, other_rules, judging, with_sequence}
use Rattle.cursor_store.specs.Assembling.{store_checks, store_status, opened_by, opened_for, cleared_for, image_after, marks_after, with_start, picture_after, assembled_as, fragment_assembled, assembled}
use Rattle.cursor_store.specs.Storing.{moves, pointer_after, stored}
use Rattle.cursor_store.specs.Receiver.{Call, fragment, other, covers, run}
use Rattle.cursor_store.specs.Calls.{State, is_accepted, answered, next, by_value}
use Rattle.cursor_store.specs.DemandThree.{Whole, Given, SameFragments, SameEnd}

-- an RTP header; the sequence number's two bytes
abbrev pub rtp : ℕ → ℕ → List ℕ
rtp high low = 0x80 ∷ 0 ∷ high ∷ low ∷ 0 ∷ 0 ∷ 0 ∷ 0 ∷ 0 ∷ 0 ∷ 0 ∷ 0 ∷ []

-- P9: `80 00 00 05`, eight zeros, `01 00 07 FF FE 00 0A`: position −2 (`negsuc 1`), 10
abbrev pub position9 : List ℕ
position9 = rtp 0 5 ++ (1 ∷ 0 ∷ 7 ∷ 0xff ∷ 0xfe ∷ 0 ∷ 0x0a ∷ [])

pub p9 : positioned fresh_pointer position9 ≡ Ok (record { known = true; sequence = 5; x = negsuc 1; y = pos 10 })
unfolding positioned moved_by position_status fresh_pointer moved_to is_newer position_checks position_at first_of frame_checks rtp_holds number_in signed
p9 = refl

-- the same packet again is not newer
pub p9_again : positioned (record { known = true; sequence = 5; x = negsuc 1; y = pos 10 }) position9 ≡ Err (refused_at refusal.NotNewer 0)
unfolding positioned moved_by position_status moved_to is_newer distance position_checks position_at first_of frame_checks rtp_holds number_in signed
p9_again = refl

-- a continuation of total 8, id 1, with a PacketMsgSize below 256, an offset and data
abbrev pub eight : ℕ → List ℕ → List ℕ
eight size rest = rtp 0 5 ++ (3 ∷ 0 ∷ size ∷ 0 ∷ 0 ∷ 0 ∷ 8 ∷ 0 ∷ 1 ∷ rest)

abbrev pub nine : List ℕ
nine = 0 ∷ 0 ∷ 0 ∷ 0 ∷ 0 ∷ 0 ∷ 0 ∷ 0 ∷ 0 ∷ []

-- P10: total 8: offset 8 with no data fits; offset 7 with two bytes is 9; offset FFFFFFFF hex is 9
pub p10
    : (store_status fresh_picture (eight 13 (0 ∷ 0 ∷ 0 ∷ 8 ∷ [])) nine nine ≡ accept)
    × (store_status fresh_picture (eight 15 (0 ∷ 0 ∷ 0 ∷ 7 ∷ 65 ∷ 66 ∷ [])) nine nine ≡ Err refusal.OutsideImage)
    × (store_status fresh_picture (eight 13 (0xff ∷ 0xff ∷ 0xff ∷ 0xff ∷ [])) nine nine ≡ Err refusal.OutsideImage)
unfolding store_status store_checks fresh_picture held has_room judging opened_rules other_rules of_opened is_newer fragment_checks fragment_frame first_of frame_checks rtp_holds number_in signed takes_type header_length image_data offset_bits place_of outside fragment_as
p10 = (refl, refl, refl)

-- The premises of demand 3 can be met: a picture of four bytes under id 9, its last place filled, and two lists of the same three
-- fragments.

abbrev pub whole : Whole
whole = record { id = 9; image = 65 ∷ 66 ∷ 67 ∷ 68 ∷ [] }

-- five bytes and marks are lent; those beyond the total hold 99 and 7
abbrev pub opened : State
opened = record {
  pointer = record { known = false; sequence = 0; x = pos 0; y = pos 0 };
  picture = record { opened = true; id = 9; total = 4; opening = 40; seen = false; start = record { image_type = 0; hot_x = 0; hot_y = 0 } };
  image = 0 ∷ 0 ∷ 0 ∷ 68 ∷ 99 ∷ [];
  marks = 0 ∷ 0 ∷ 0 ∷ 2 ∷ 7 ∷ [];
}

-- a start with 41 42, a continuation with 42 43 at offset 1, and one with 44 at offset 3; their sequence numbers are older than the
-- opening one
abbrev pub start : ℕ → ℕ → List ℕ
start sequence hot = rtp 0 sequence ++ (2 ∷ 0 ∷ 20 ∷ 0 ∷ 0 ∷ 0 ∷ 4 ∷ 0 ∷ 9 ∷ 0xff ∷ 0xfe ∷ 0 ∷ 10 ∷ 3 ∷ 0 ∷ hot ∷ 0 ∷ 2 ∷ 65 ∷ 66 ∷ [])

abbrev pub middle : ℕ → List ℕ
middle sequence = rtp 0 sequence ++ (3 ∷ 0 ∷ 15 ∷ 0 ∷ 0 ∷ 0 ∷ 4 ∷ 0 ∷ 9 ∷ 0 ∷ 0 ∷ 0 ∷ 1 ∷ 66 ∷ 67 ∷ [])

abbrev pub last : ℕ → List ℕ
last sequence = rtp 0 sequence ++ (3 ∷ 0 ∷ 14 ∷ 0 ∷ 0 ∷ 0 ∷ 4 ∷ 0 ∷ 9 ∷ 0 ∷ 0 ∷ 0 ∷ 3 ∷ 68 ∷ [])

-- the start, a packet of no bytes (1), the rest, and the middle again
abbrev pub forwards : List Call
forwards = fragment (start 30 1) ∷ other [] ∷ fragment (middle 31) ∷ fragment (last 32) ∷ fragment (middle 31) ∷ []

-- another order, other sequence numbers, the start twice, and a second start that differs in its own fields (13)
abbrev pub backwards : List Call
backwards = fragment (last 7) ∷ fragment (start 39 1) ∷ other (start 41 5) ∷ fragment (middle 2) ∷ fragment (start 39 1) ∷ []

abbrev pub PremisesMet : Type 0
PremisesMet = Given by_value whole opened forwards × Given by_value whole opened backwards × SameFragments forwards backwards

abbrev pub SameFromBoth : Type 0
SameFromBoth = SameEnd by_value (run by_value opened forwards) (run by_value opened backwards)

-- what both leave, computed
pub ends_with
    : ((run by_value opened forwards).image ≡ 65 ∷ 66 ∷ 67 ∷ 68 ∷ 99 ∷ [])
    × ((run by_value opened forwards).marks ≡ 1 ∷ 1 ∷ 1 ∷ 1 ∷ 7 ∷ [])
    × ((run by_value opened backwards).marks ≡ 1 ∷ 1 ∷ 1 ∷ 1 ∷ 7 ∷ [])
    × (completeness (run by_value opened forwards).picture 5 (run by_value opened forwards).marks ≡ Ok true)
    × (completeness opened.picture 5 opened.marks ≡ Ok false)
unfolding run next stored assembled assembled_as store_status store_checks held has_room judging opened_rules other_rules of_opened same_start start_differs bytes_differ conflict_in some_below lesser is_newer distance moved_to opened_for cleared_for image_after marks_after with_start picture_after pointer_after splice fragment_checks fragment_frame first_of frame_checks rtp_holds number_in signed takes_type header_length image_data start_of no_start start_in offset_bits place_of outside fragment_as first_empty_of first_empty completeness
ends_with = (refl, refl, refl, refl, refl)

-- The premises of the other theorems are met.

-- SequenceIgnored: a continuation of the opened id, as it is and with the sequence number 2
-- OldFragmentStored: the same
pub sequence_ignored
    : (of_opened opened.picture (fragment_of (middle 31)) ≡ true)
    × (fragment_assembled opened.picture (with_sequence 2 (fragment_of (middle 31))) (data_of (middle 31)) opened.image opened.marks
    ≡ fragment_assembled opened.picture (fragment_of (middle 31)) (data_of (middle 31)) opened.image opened.marks)
unfolding fragment_assembled assembled_as held has_room judging opened_rules other_rules of_opened start_differs bytes_differ conflict_in some_below lesser opened_for cleared_for image_after marks_after with_start picture_after splice first_of number_in signed header_length image_data start_in no_start offset_bits place_of fragment_as
sequence_ignored = (refl, refl)

-- the state `opened`, its picture under id 8 and opened by 65,535
abbrev pub former : State
former = record {
  pointer = opened.pointer;
  picture = record { opened = true; id = 8; total = 4; opening = 65535; seen = false; start = record { image_type = 0; hot_x = 0; hot_y = 0 } };
  image = opened.image;
  marks = opened.marks;
}

-- WrapOpens: a continuation of id 9 with sequence number 0
pub wrap_opens
    : (of_opened former.picture (fragment_of (middle 0)) ≡ false) × (former.picture.opening ≡ 65535) × ((fragment_of (middle 0)).sequence ≡ 0)
    × (has_room (fragment_of (middle 0)).total 5 5 ≡ true)
    × (first_of (judging former.picture (fragment_of (middle 0)) (data_of (middle 0)) former.image former.marks) ≡ accept)
unfolding has_room judging opened_rules other_rules of_opened is_newer distance first_of number_in signed header_length image_data start_in no_start offset_bits place_of fragment_as
wrap_opens = (refl, refl, refl, refl, refl)

-- PointerKept: a continuation; and a start that is not newer
pub pointer_kept
    : (moves fresh_pointer (middle 31) ≡ false)
    × (moves (record { known = true; sequence = 30; x = pos 1; y = pos 2 }) (start 30 1) ≡ false)
    × (pointer_after (record { known = true; sequence = 30; x = pos 1; y = pos 2 }) (start 30 1) ≡ record { known = true; sequence = 30; x = pos 1; y = pos 2 })
unfolding moves pointer_after moved_to is_newer distance number_in position_at signed fresh_pointer
pointer_kept = (refl, refl, refl)

-- RefusalKeeps: a packet of no bytes
pub refusal_keeps : (is_accepted (answered opened []).answer ≡ false) × (next opened [] ≡ opened)
unfolding next stored assembled assembled_as store_status store_checks held has_room judging opened_rules other_rules of_opened fragment_checks fragment_frame first_of frame_checks takes_type header_length image_data offset_bits place_of outside fragment_as number_in signed
refusal_keeps = (refl, refl)

-- PictureKept: a start of the opened id for the second time, after the first
pub picture_kept
    : (is_accepted (answered (next opened (start 30 1)) (start 39 1)).answer ≡ true)
    × (of_opened (next opened (start 30 1)).picture (fragment_of (start 39 1)) ≡ true)
    × ((next opened (start 30 1)).picture.seen ≡ true)
    × ((next (next opened (start 30 1)) (start 39 1)).picture ≡ (next opened (start 30 1)).picture)
unfolding next stored assembled assembled_as store_status store_checks held has_room judging opened_rules other_rules of_opened same_start start_differs bytes_differ conflict_in some_below lesser opened_for cleared_for image_after marks_after with_start picture_after splice fragment_checks fragment_frame first_of frame_checks rtp_holds number_in signed takes_type header_length image_data start_of no_start start_in offset_bits place_of outside fragment_as
picture_kept = (refl, refl, refl, refl)

-- OutsideKept: the place before those of a continuation of the opened id; and the place after the total
pub outside_kept
    : (covers (middle 31) 0 ≡ false) × (of_opened opened.picture (fragment_of (middle 31)) ≡ true)
    × (covers (middle 31) 4 ≡ false) × ((fragment_of (middle 31)).total ≤ 4)
unfolding of_opened fragment_as number_in offset_bits place_of signed image_data header_length
outside_kept = (refl, refl, refl, omega arith)

-- FormerStaysClosed: a start of id 9 with sequence number 0 opens its picture; then comes a continuation of id 8 with sequence number 65,535
abbrev pub late : List ℕ
late = rtp 0xff 0xff ++ (3 ∷ 0 ∷ 14 ∷ 0 ∷ 0 ∷ 0 ∷ 4 ∷ 0 ∷ 8 ∷ 0 ∷ 0 ∷ 0 ∷ 3 ∷ 68 ∷ [])

pub former_stays_closed
    : (is_accepted (answered former (start 0 1)).answer ≡ true) × (of_opened former.picture (fragment_of (start 0 1)) ≡ false)
    × ((fragment_of (start 0 1)).id ≡ (fragment_of late).id → ⊥)
    × (is_newer true (fragment_of (start 0 1)).sequence (fragment_of late).sequence ≡ false)
    × (numbered (answered (next former (start 0 1)) late).answer ≡ record { number = 11; place = 0 })
unfolding next stored assembled assembled_as store_status store_checks held has_room judging opened_rules other_rules of_opened start_differs bytes_differ conflict_in some_below lesser is_newer distance opened_by opened_for cleared_for image_after marks_after with_start picture_after splice fragment_checks fragment_frame first_of frame_checks rtp_holds number_in signed takes_type header_length image_data start_of no_start start_in offset_bits place_of outside fragment_as
former_stays_closed = (refl, refl, λ e. let no : ⊥ = omega arith in no, refl, refl)

-- DemandThree: PremisesMet, above. Without a premise: NumberByChecks.
