-- 01's examples of a listing, and bytes that meet the premises of the theorems, computed. Assumes nothing.
use Rattle.std.specs.Prelude.{ℕ, ◌≤◌, ◌<◌, ◌≡◌, refl, List, [], ◌∷◌, ◌++◌, length, take, replicate}
use Rattle.std.proofs.Common.{inl, inr, arith}
use Rattle.wire.specs.Below.{all_below}
use Rattle.wire.specs.Checks.{first_of}
use Rattle.wire.specs.Number.{number_in, Bytes}
use Rattle.wire.proofs.Laws.Below.{bytes_computed}
use Rattle.wire.specs.declared.status.Refusal.TheVariants as refusal
use Rattle.message_rules.specs.Rules.{roles_of, role_of, lengths_of, length_in, length_ok, known_command}
use Rattle.message_rules.specs.Record.{field_of, with_field, empty_of}
use Rattle.message_reader.specs.Examples.{handshake, handshake_record}
use Rattle.message_reader.specs.Reading.{size_in, read_size, header_status, has_needed, is_complete, tlv_at, last_of, tlvs_from, read_message}
use Rattle.message_recording.specs.declared.line.Line.TheVariants as line
use Rattle.message_recording.specs.Cut.{needed_of}
use Rattle.message_recording.specs.Line.{shown, line_number, line_of}
use Rattle.message_recording.specs.Listing.{lines_from, lines_at, listing}
use Rattle.message_recording.specs.Theorems.{Whole, CutShort, SizeBelow, joined, AllAccepted}
use Rattle.message_recording.specs.Theorems as given

-- a Source Ready of 33 bytes (01's A), and a Stop Projection of 28 bytes: the same without its port
pub source_ready : List ℕ
source_ready = 0 ∷ 0x21 ∷ 1 ∷ 1 ∷ 0 ∷ 0 ∷ 2 ∷ 0x41 ∷ 0 ∷ 2 ∷ 0 ∷ 2 ∷ 0x1c ∷ 0x44 ∷ 3 ∷ 0 ∷ 16 ∷ replicate 16 7

pub stop_projection : List ℕ
stop_projection = 0 ∷ 0x1c ∷ 1 ∷ 2 ∷ 0 ∷ 0 ∷ 2 ∷ 0x41 ∷ 0 ∷ 3 ∷ 0 ∷ 16 ∷ replicate 16 7

-- `0 1 33`, `33 2 28`, `end 61`; "With one byte more at the end, the last line is `61 refused 1`."
pub two_messages
    : (listing (source_ready ++ stop_projection) ≡ (0, line.Message 1 33) ∷ (33, line.Message 2 28) ∷ (61, line.End) ∷ [])
    × (listing ((source_ready ++ stop_projection) ++ (0 ∷ []))
    ≡ (0, line.Message 1 33) ∷ (33, line.Message 2 28) ∷ (61, line.Refused refusal.Truncated) ∷ [])
unfolding source_ready stop_projection number_in roles_of role_of lengths_of length_in length_ok known_command field_of with_field empty_of all_below
    has_needed is_complete first_of read_size header_status tlv_at last_of tlvs_from read_message needed_of line_of lines_from lines_at listing
two_messages = (refl, refl)

-- an empty recording: `end 0`
pub empty : listing [] ≡ (0, line.End) ∷ []
unfolding line_of lines_from lines_at listing
empty = refl

-- a Size below 4: `0 refused 2`
pub size_below_header : listing (0 ∷ 3 ∷ 1 ∷ 1 ∷ []) ≡ (0, line.Refused refusal.WrongSize) ∷ []
unfolding number_in first_of read_size header_status read_message needed_of line_of lines_from lines_at listing
size_below_header = refl

-- fewer bytes than Size: `0 refused 1`
pub size_past_the_end : listing (0 ∷ 5 ∷ 1 ∷ 1 ∷ []) ≡ (0, line.Refused refusal.Truncated) ∷ []
unfolding number_in first_of read_size header_status read_message needed_of line_of lines_from lines_at listing
size_past_the_end = refl

-- The premises of the theorems are met, most by the message of 8 bytes of `message_reader Examples`.

-- ReadSoFarDecides: its 8 bytes, and one that follows
pub read_so_far
    : (needed_of handshake ≤ length handshake) × (line_of (handshake ++ (0 ∷ [])) ≡ line.Message 3 8) × (line_of handshake ≡ line.Message 3 8)
unfolding number_in roles_of role_of lengths_of length_in length_ok known_command field_of with_field empty_of all_below has_needed is_complete first_of
    read_size header_status tlv_at last_of tlvs_from read_message needed_of line_of
read_so_far = (omega arith, refl, refl)

-- FrontDecides: the first 8 of these 9 bytes
pub front : (needed_of (handshake ++ (0 ∷ [])) ≤ 8) × (line_of (take 8 (handshake ++ (0 ∷ []))) ≡ line.Message 3 8)
unfolding number_in roles_of role_of lengths_of length_in length_ok known_command field_of with_field empty_of all_below has_needed is_complete first_of
    read_size header_status tlv_at last_of tlvs_from read_message needed_of line_of
front = (omega arith, refl)

-- BoundedNeed: the greatest Size
pub greatest : Bytes (0xff ∷ 0xff ∷ 1 ∷ 3 ∷ []) × (needed_of (0xff ∷ 0xff ∷ 1 ∷ 3 ∷ []) ≡ 65535)
unfolding all_below number_in first_of read_size header_status read_message needed_of line_of
greatest = (bytes_computed (0xff ∷ 0xff ∷ 1 ∷ 3 ∷ []) refl, refl)

-- MessageExactly: the message, with a byte after it, stands there whole
pub message
    : Whole (handshake ++ (0 ∷ [])) 3 8 handshake_record × (line_of (handshake ++ (0 ∷ [])) ≡ line.Message 3 8)
unfolding number_in roles_of role_of lengths_of length_in length_ok known_command field_of with_field empty_of all_below has_needed is_complete first_of
    read_size header_status tlv_at last_of tlvs_from read_message needed_of line_of
message = (record { size = refl; four = omega arith; there = omega arith; accepted = refl; command = refl }, refl)

-- EndExactly: no bytes
pub end : line_of [] ≡ line.End
unfolding line_of
end = refl

-- CutBySize: one byte; a Size of 3; a Size of 5 with four bytes; the message, cut off from the byte after it
pub cut
    : ((0 < 1) × (line_of (9 ∷ []) ≡ line.Refused refusal.Truncated))
    × ((4 ≤ 4) × (size_in (0 ∷ 3 ∷ 1 ∷ 1 ∷ []) < 4) × (line_of (0 ∷ 3 ∷ 1 ∷ 1 ∷ []) ≡ line.Refused refusal.WrongSize))
    × ((4 ≤ 4) × (4 < size_in (0 ∷ 5 ∷ 1 ∷ 1 ∷ [])) × (line_of (0 ∷ 5 ∷ 1 ∷ 1 ∷ []) ≡ line.Refused refusal.Truncated))
    × ((4 ≤ size_in handshake) × (size_in handshake ≤ 9) × (line_of (handshake ++ (0 ∷ [])) ≡ shown 8 (read_message handshake)))
unfolding number_in roles_of role_of lengths_of length_in length_ok known_command field_of with_field empty_of all_below has_needed is_complete first_of
    read_size header_status tlv_at last_of tlvs_from read_message needed_of line_of
cut = ((omega arith, refl), (omega arith, omega arith, refl), (omega arith, omega arith, refl), (omega arith, omega arith, refl))

-- OneExactly: one byte; a Size of 5 with four bytes
pub one
    : (CutShort (9 ∷ []) × (line_number (line_of (9 ∷ [])) ≡ 1)) × (CutShort (0 ∷ 5 ∷ 1 ∷ 1 ∷ []) × (line_number (line_of (0 ∷ 5 ∷ 1 ∷ 1 ∷ [])) ≡ 1))
unfolding number_in first_of read_size header_status read_message needed_of line_of
one = (((omega arith, inl (omega arith)), refl), ((omega arith, inr (omega arith, omega arith)), refl))

-- TwoExactly: a Size of 3
pub two : SizeBelow (0 ∷ 3 ∷ 1 ∷ 1 ∷ []) × (line_number (line_of (0 ∷ 3 ∷ 1 ∷ 1 ∷ [])) ≡ 2)
unfolding number_in first_of read_size header_status read_message needed_of line_of
two = ((omega arith, omega arith), refl)

-- MessagesListed: the message twice, and a byte
pub messages
    : AllAccepted (handshake ∷ handshake ∷ [])
    × (listing (joined (handshake ∷ handshake ∷ []) (9 ∷ [])) ≡ (0, line.Message 3 8) ∷ (8, line.Message 3 8) ∷ (16, line.Refused refusal.Truncated) ∷ [])
unfolding number_in roles_of role_of lengths_of length_in length_ok known_command field_of with_field empty_of all_below has_needed is_complete first_of
    read_size header_status tlv_at last_of tlvs_from read_message needed_of line_of lines_from lines_at listing joined
messages = (given.one refl (given.one refl given.none), refl)

-- Without a premise: RecordingListed, EndListed.
