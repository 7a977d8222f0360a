-- The two lists of specs/Examples.antt meet the premises of demand 3, each fact computed; so they leave the same. Assumes nothing.
use Prim.Native.Nat.{ℕ, zero, suc, ◌<◌}
use mathlib.Core.Path.{◌≡◌, refl}
use mathlib.Core.Logic.{inl, inr}
use mathlib.Core.Bool.{true, false≢true}
use native.Mathlib.Omega.{arith}
use lib.ListN.{get_or}
use Rattle.wire.specs.Number.{number_in}
use Rattle.wire.specs.Signed.{signed}
use Rattle.wire.specs.Splice.{splice}
use Rattle.scan.specs.Below.{some_below}
use Rattle.scan.specs.Conflict.{conflict_in}
use Rattle.scan.specs.Empty.{filled_at}
use Rattle.scan.specs.Order.{lesser}
use Rattle.wire.specs.Checks.{first_of}
use Rattle.cursor_packet.specs.Frame.{frame_checks}
use Rattle.cursor_packet.specs.Rtp.{rtp_holds}
use Rattle.cursor_fragment.specs.Fragment.{takes_type, header_length, image_data, offset_bits, place_of, outside, fragment_frame, fragment_checks, fragment_as}
use Rattle.cursor_fragment.specs.Start.{start_of, no_start, start_in, same_start}
use Rattle.cursor_picture.specs.Picture.{has_room, held}
use Rattle.cursor_store.specs.Judging.{of_opened, start_differs, bytes_differ, opened_rules, other_rules, judging}
use Rattle.cursor_store.specs.Assembling.{store_checks, store_status, opened_for, cleared_for, image_after, marks_after, with_start, picture_after, assembled_as, assembled}
use Rattle.cursor_store.specs.Storing.{stored}
use Rattle.cursor_store.specs.Calls.{next, by_value}
use Rattle.cursor_store.specs.DemandThree.{OpenedAs, CutFrom, Taken, Agreeing, SameFragments}
use Rattle.cursor_store.specs.Examples.{whole, opened, start, middle, last, forwards, backwards, PremisesMet, SameFromBoth}
use Rattle.cursor_store.proofs.Laws.DemandThree.{demand_three}

is_opened : OpenedAs by_value whole opened
unfolding held has_room
is_opened = record { opened = refl; same_id = refl; same_total = refl; clear = refl; agreeing = agree }
  where
    agree : (i : ℕ) → i < 4 → filled_at opened.marks i ≡ true → get_or opened.image i 0 ≡ get_or whole.image i 0
    agree zero l h = absurd (false≢true h)
    agree (suc zero) l h = absurd (false≢true h)
    agree (suc (suc zero)) l h = absurd (false≢true h)
    agree (suc (suc (suc zero))) l h = refl
    agree (suc (suc (suc (suc i)))) l h = absurd (let no : ⊥ = omega arith in no)

module _ (sequence : ℕ) where
  start_cut : CutFrom whole (start sequence 1)
  unfolding fragment_checks fragment_frame first_of frame_checks rtp_holds number_in takes_type header_length image_data offset_bits place_of outside signed fragment_as
  start_cut = record { well_formed = refl; same_id = refl; same_total = refl; same_bytes = refl }

  middle_cut : CutFrom whole (middle sequence)
  unfolding fragment_checks fragment_frame first_of frame_checks rtp_holds number_in signed takes_type header_length image_data offset_bits place_of outside fragment_as
  middle_cut = record { well_formed = refl; same_id = refl; same_total = refl; same_bytes = refl }

  last_cut : CutFrom whole (last sequence)
  unfolding fragment_checks fragment_frame first_of frame_checks rtp_holds number_in signed takes_type header_length image_data offset_bits place_of outside fragment_as
  last_cut = record { well_formed = refl; same_id = refl; same_total = refl; same_bytes = refl }

forwards_taken : Taken by_value whole opened forwards
unfolding next stored assembled assembled_as store_status store_checks held has_room judging opened_rules other_rules of_opened same_start start_differs bytes_differ conflict_in some_below lesser opened_for cleared_for image_after marks_after with_start picture_after splice fragment_checks fragment_frame first_of frame_checks rtp_holds number_in signed takes_type header_length image_data start_of no_start start_in offset_bits place_of outside fragment_as
forwards_taken = (start_cut 30, (refl, (middle_cut 31, (last_cut 32, (middle_cut 31, tt)))))

backwards_taken : Taken by_value whole opened backwards
unfolding next stored assembled assembled_as store_status store_checks held has_room judging opened_rules other_rules of_opened same_start start_differs bytes_differ conflict_in some_below lesser opened_for cleared_for image_after marks_after with_start picture_after splice fragment_checks fragment_frame first_of frame_checks rtp_holds number_in signed takes_type header_length image_data start_of no_start start_in offset_bits place_of outside fragment_as
backwards_taken = (last_cut 7, (start_cut 39, (refl, (middle_cut 2, (start_cut 39, tt)))))

forwards_agree : Agreeing by_value opened forwards
unfolding number_in fragment_as start_in start_of
forwards_agree = record {
  common = record { image_type = 3; hot_x = 1; hot_y = 2 };
  seen = λ h. absurd (false≢true h);
  starts = ((λ h. refl), ((λ h. absurd (false≢true h)), ((λ h. absurd (false≢true h)), ((λ h. absurd (false≢true h)), tt))));
}

backwards_agree : Agreeing by_value opened backwards
unfolding number_in fragment_as start_in start_of
backwards_agree = record {
  common = record { image_type = 3; hot_x = 1; hot_y = 2 };
  seen = λ h. absurd (false≢true h);
  starts = ((λ h. absurd (false≢true h)), ((λ h. refl), ((λ h. absurd (false≢true h)), ((λ h. refl), tt))));
}

same_fragments : SameFragments forwards backwards
unfolding number_in fragment_as start_in start_of no_start place_of offset_bits signed image_data header_length
same_fragments = (
  (inr (inl (record { same_type = refl; same_offset = refl; same_data = refl; same_start = refl })), (inr (inr (inl (record { same_type = refl; same_offset = refl; same_data = refl; same_start = refl }))), (inl (record { same_type = refl; same_offset = refl; same_data = refl; same_start = refl }), (inr (inr (inl (record { same_type = refl; same_offset = refl; same_data = refl; same_start = refl }))), tt)))),
  (inr (inr (inl (record { same_type = refl; same_offset = refl; same_data = refl; same_start = refl }))), (inl (record { same_type = refl; same_offset = refl; same_data = refl; same_start = refl }), (inr (inl (record { same_type = refl; same_offset = refl; same_data = refl; same_start = refl })), (inl (record { same_type = refl; same_offset = refl; same_data = refl; same_start = refl }), tt)))),
)

pub premises_met : PremisesMet
premises_met = (
  record { asked = tt; opened = is_opened; taken = forwards_taken; agreeing = forwards_agree },
  record { asked = tt; opened = is_opened; taken = backwards_taken; agreeing = backwards_agree },
  same_fragments,
)

pub same_from_both : SameFromBoth
same_from_both = let p = premises_met in (demand_three whole opened forwards p.0).same backwards p.1 p.2
