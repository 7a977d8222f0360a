-- The records and the two lists of specs/Examples.antt meet the premises of demand 3, each fact computed or that of the lists by value; so they
-- leave the same. Assumes nothing.
use mathlib.Core.Path.{refl}
use mathlib.Core.List.{List, []}
use Rattle.wire.specs.Below.{all_below}
use Rattle.wire.specs.Checks.{first_of}
use Rattle.wire.specs.Laid.{laid}
use Rattle.wire.specs.LittleEndian.{number_at}
use Rattle.wire.specs.Number.{number_in, bytes_in}
use Rattle.wire.specs.Sequence.{is_newer, distance}
use Rattle.wire.specs.Signed.{signed}
use Rattle.wire.specs.Splice.{splice}
use Rattle.wire.proofs.Laws.Below.{bytes_computed}
use Rattle.scan.specs.Below.{some_below}
use Rattle.scan.specs.Conflict.{conflict_in}
use Rattle.scan.specs.Order.{lesser}
use Rattle.cursor_packet.specs.Frame.{frame_checks}
use Rattle.cursor_packet.specs.Position.{position_at}
use Rattle.cursor_packet.specs.Rtp.{rtp_holds}
use Rattle.cursor_fragment.specs.Fragment.{takes_type, header_length, image_data, offset_bits, place_of, outside, fragment_frame, fragment_checks, fragment_as}
use Rattle.cursor_fragment.specs.Start.{start_of, no_start, start_in, same_start}
use Rattle.cursor_pointer.specs.Pointer.{moved_to}
use Rattle.cursor_picture.specs.Picture.{same_picture, has_room, held}
use Rattle.cursor_layout.specs.PointerLayout.{pointer_of}
use Rattle.cursor_layout.specs.PictureLayout.{start_bytes, picture_bytes, picture_of, picture_left}
use Rattle.cursor_store.specs.Judging.{of_opened, start_differs, bytes_differ, opened_rules, other_rules, judging}
use Rattle.cursor_store.specs.Assembling.{store_checks, store_status, opened_for, cleared_for, image_after, marks_after, with_start, picture_after, assembled_as, assembled}
use Rattle.cursor_store.specs.Storing.{moves, pointer_after, stored}
use Rattle.cursor_store.specs.Calls.{by_value}
use Rattle.cursor_store.specs.Receiver.{Call}
use Rattle.cursor_store.specs.DemandThree.{OpenedAs, Taken, Agreeing}
use Rattle.cursor_store.specs.Examples.{whole, opened, start, middle, last, forwards, backwards}
use Rattle.cursor_store.proofs.Laws.Examples.{premises_met}
use Rattle.cursor_calls.specs.CursorCalls.{records_whole, pointer_left, cursor_store}
use Rattle.cursor_calls.specs.Records.{RecordsLent, PacketsLent, next_lent, over_records}
use Rattle.cursor_calls.specs.Examples.{lent, PremisesMet, SameFromBoth}
use Rattle.cursor_calls.proofs.Laws.Records.{demand_three_over_records}

records_lent : RecordsLent lent
unfolding records_whole all_below
records_lent = record { whole = refl; pointer = bytes_computed lent.pointer refl; picture = bytes_computed lent.picture refl }

forwards_lent : PacketsLent forwards
unfolding all_below
forwards_lent = (
  bytes_computed (start 30 1) refl,
  (bytes_computed [] refl, (bytes_computed (middle 31) refl, (bytes_computed (last 32) refl, (bytes_computed (middle 31) refl, tt)))),
)

backwards_lent : PacketsLent backwards
unfolding all_below
backwards_lent = (
  bytes_computed (last 7) refl,
  (bytes_computed (start 39 1) refl, (bytes_computed (start 41 5) refl, (bytes_computed (middle 2) refl, (bytes_computed (start 39 1) refl, tt)))),
)

-- the records hold what is opened by value
is_opened : OpenedAs by_value whole opened → OpenedAs over_records whole lent
unfolding picture_of number_at number_in
is_opened o = record { opened = o.opened; same_id = o.same_id; same_total = o.same_total; clear = o.clear; agreeing = o.agreeing }

agree : (l : List Call) → Agreeing by_value opened l → Agreeing over_records lent l
unfolding picture_of number_at number_in
agree l a = record { common = a.common; seen = a.seen; starts = a.starts }

forwards_taken : Taken by_value whole opened forwards → Taken over_records whole lent forwards
unfolding next_lent cursor_store records_whole pointer_left picture_left same_picture same_start moves stored assembled assembled_as store_status store_checks held has_room judging opened_rules other_rules of_opened start_differs bytes_differ conflict_in some_below lesser is_newer distance moved_to opened_for cleared_for image_after marks_after with_start picture_after pointer_after splice laid fragment_checks fragment_frame first_of frame_checks rtp_holds number_in number_at bytes_in signed takes_type header_length image_data start_of no_start start_in offset_bits place_of outside fragment_as picture_of pointer_of picture_bytes start_bytes position_at
forwards_taken t = (t.0, (refl, (t.1.1.0, (t.1.1.1.0, (t.1.1.1.1.0, tt)))))

backwards_taken : Taken by_value whole opened backwards → Taken over_records whole lent backwards
unfolding next_lent cursor_store records_whole pointer_left picture_left same_picture same_start moves stored assembled assembled_as store_status store_checks held has_room judging opened_rules other_rules of_opened start_differs bytes_differ conflict_in some_below lesser is_newer distance moved_to opened_for cleared_for image_after marks_after with_start picture_after pointer_after splice laid fragment_checks fragment_frame first_of frame_checks rtp_holds number_in number_at bytes_in signed takes_type header_length image_data start_of no_start start_in offset_bits place_of outside fragment_as picture_of pointer_of picture_bytes start_bytes position_at
backwards_taken t = (t.0, (t.1.0, (refl, (t.1.1.1.0, (t.1.1.1.1.0, tt)))))

pub met : PremisesMet
met =
    let p = premises_met in (
      record { asked = (records_lent, forwards_lent); opened = is_opened p.0.opened; taken = forwards_taken p.0.taken; agreeing = agree forwards p.0.agreeing },
      record { asked = (records_lent, backwards_lent); opened = is_opened p.1.opened; taken = backwards_taken p.1.taken; agreeing = agree backwards p.1.agreeing },
      p.2,
    )

pub same_from_both : SameFromBoth
same_from_both = let p = met in (demand_three_over_records whole lent forwards p.0).same backwards p.1 p.2
