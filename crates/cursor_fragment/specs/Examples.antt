-- Small examples of this crate's definitions, P10 of 01, "Proved table of small examples", among them. Each is computed.
use Rattle.std.specs.Prelude.{ℕ, ◌≡◌, refl, true, List, [], ◌∷◌, ◌++◌, pos, negsuc, drop, Some, Ok, Err}
use Rattle.wire.specs.Number.{number_in}
use Rattle.wire.specs.Signed.{signed}
use Rattle.wire.specs.declared.status.Refusal.TheVariants as refusal
use Rattle.wire.specs.Status.{accept, accepted}
use Rattle.wire.specs.Checks.{first_of}
use Rattle.cursor_packet.specs.Rtp.{rtp_holds}
use Rattle.cursor_packet.specs.Frame.{frame_checks}
use Rattle.cursor_packet.specs.Position.{position_at}
use Rattle.cursor_packet.specs.UnusedFields.{SameButUnused}
use Rattle.cursor_packet.specs.Examples.{rtp, filled}
use Rattle.cursor_fragment.specs.Fragment.{takes_type, header_length, image_data, offset_bits, place_of, outside, fragment_frame, fragment_checks, fragment_as, fragment_of, fragment_status, data_of, read_fragment}
use Rattle.cursor_fragment.specs.Start.{start_of, start_in, start_position}

-- P10: total 8: offset 8 with no data fits; offset 7 with two bytes is 9; offset FFFFFFFF hex is 9
abbrev pub eight : ℕ → List ℕ → List ℕ
eight size rest = rtp 5 ++ (3 ∷ 0 ∷ size ∷ 0 ∷ 0 ∷ 0 ∷ 8 ∷ 0 ∷ 1 ∷ rest)

pub p10
    : (fragment_status (eight 13 (0 ∷ 0 ∷ 0 ∷ 8 ∷ [])) ≡ accept)
    × (fragment_status (eight 15 (0 ∷ 0 ∷ 0 ∷ 7 ∷ 65 ∷ 66 ∷ [])) ≡ Err refusal.OutsideImage)
    × (fragment_status (eight 13 (0xff ∷ 0xff ∷ 0xff ∷ 0xff ∷ [])) ≡ Err refusal.OutsideImage)
unfolding fragment_frame fragment_checks first_of frame_checks rtp_holds number_in signed takes_type header_length image_data offset_bits outside
p10 = (refl, refl, refl)

-- a start: total 4, id 9, position −2, 10, image type 3, hot spot 1, 2, two bytes of data
abbrev pub start : List ℕ
start = rtp 5 ++ (2 ∷ 0 ∷ 20 ∷ 0 ∷ 0 ∷ 0 ∷ 4 ∷ 0 ∷ 9 ∷ 0xff ∷ 0xfe ∷ 0 ∷ 10 ∷ 3 ∷ 0 ∷ 1 ∷ 0 ∷ 2 ∷ 65 ∷ 66 ∷ [])

pub start_read
    : read_fragment start
    ≡ Ok
    (record {
      sequence = 5;
      total = 4;
      id = 9;
      offset = 0;
      start = Some (record { image_type = 3; hot_x = 1; hot_y = 2 });
    })
unfolding read_fragment fragment_as start_in start_of place_of fragment_frame fragment_checks first_of frame_checks rtp_holds number_in signed takes_type header_length image_data offset_bits outside
start_read = refl

pub start_moves_to : start_position start ≡ record { sequence = 5; x = negsuc 1; y = pos 10 }
unfolding position_at number_in signed
start_moves_to = refl

pub start_data : data_of start ≡ 65 ∷ 66 ∷ []
unfolding image_data header_length number_in
start_data = refl

-- the order: too short before a wrong type, a wrong RTP field before a wrong type, a wrong type before a wrong size; the call takes its own
-- types
pub in_order
    : (fragment_status [] ≡ Err refusal.Truncated)
    × (fragment_status (0 ∷ rtp 5 ++ (9 ∷ 0 ∷ 0 ∷ [])) ≡ Err refusal.WrongHeader)
    × (fragment_status (rtp 5 ++ (1 ∷ 0 ∷ 0 ∷ [])) ≡ Err refusal.UnknownKind)
    × (fragment_status (rtp 5 ++ (3 ∷ 0 ∷ 12 ∷ [])) ≡ Err refusal.WrongSize)
    × (fragment_status (rtp 5 ++ (3 ∷ 0 ∷ 13 ∷ [])) ≡ Err refusal.Truncated)
unfolding fragment_frame fragment_checks first_of frame_checks rtp_holds number_in signed takes_type header_length image_data offset_bits outside
in_order = (refl, refl, refl, refl, refl)

-- The premises of the theorems are met.

-- OffsetKept: an accepted continuation at offset 7 of 8
-- DataInside: the same
pub offset_kept
    : (accepted (fragment_status (eight 14 (0 ∷ 0 ∷ 0 ∷ 7 ∷ 65 ∷ []))) ≡ true)
    × ((fragment_of (eight 14 (0 ∷ 0 ∷ 0 ∷ 7 ∷ 65 ∷ []))).offset ≡ 7)
    × (data_of (eight 14 (0 ∷ 0 ∷ 0 ∷ 7 ∷ 65 ∷ [])) ≡ 65 ∷ [])
unfolding fragment_frame fragment_checks first_of frame_checks rtp_holds number_in signed takes_type header_length image_data offset_bits outside fragment_as place_of
offset_kept = (refl, refl, refl)

-- ReadAlike: the start, and the same with timestamp and SSRC filled (02 §2)
pub filled_start
    : SameButUnused start (filled 5 ++ drop 12 start)
    × (read_fragment (filled 5 ++ drop 12 start) ≡ read_fragment start)
    × (data_of (filled 5 ++ drop 12 start) ≡ 65 ∷ 66 ∷ [])
unfolding read_fragment fragment_as start_in start_of place_of fragment_frame fragment_checks first_of frame_checks rtp_holds number_in signed takes_type header_length image_data offset_bits outside
filled_start = (record { as_long = refl; before = refl; after = refl }, refl, refl)

-- Without a premise: NumberByChecks.
