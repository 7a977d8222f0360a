-- 01, "Proved table of small examples": "These twelve are shown against the definitions by a single theorem over a list of them." An example says
-- what a definition has to give, by numbers and Bools alone, so that each is tested by computing. Assumes nothing.
use Rattle.std.specs.Prelude.{ℕ, ◌≡◌, refl, List, [], ◌∷◌, ◌++◌, Bool, true, false, not, ◌&&◌, eqb, ℤ, pos, negsuc, replicate, Option, Some, None, Result, Ok, Err}
use Rattle.wire.specs.Below.{all_below}
use Rattle.wire.specs.Number.{number_in}
use Rattle.wire.specs.Sequence.{distance, is_newer}
use Rattle.wire.specs.Signed.{signed}
use Rattle.wire.specs.Status.{number_of}
use Rattle.wire.specs.Numbered.{numbered}
use Rattle.wire.specs.declared.status.Refused.{Refused}
use Rattle.message_rules.specs.declared.record.Message.{Message}
use Rattle.message_rules.specs.Rules.{roles_of, role_of, lengths_of, length_in, length_ok, known_command}
use Rattle.message_rules.specs.Record.{field_of, with_field, empty_of}
use Rattle.message_reader.specs.Reading.{header_status, has_needed, is_complete, tlv_at, last_of, tlvs_from, read_message}
use Rattle.message_rules.specs.Accessors.{port_of, no_source}
use Rattle.session_table.specs.declared.record.State.{State}
use Rattle.session_table.specs.declared.record.State.TheVariants as state
use Rattle.session_table.specs.Record.{fresh_session}
use Rattle.session_table.specs.Source.{carried, other_source}
use Rattle.session_table.specs.Table.{is_event}
use Rattle.session_step.specs.declared.step.Stepped.{Stepped}
use Rattle.session_step.specs.Step.{options_from, source_after, accepted, step_of}
use Rattle.cursor_packet.specs.declared.position.Position.{Position}
use Rattle.wire.specs.Checks.{first_of}
use Rattle.cursor_packet.specs.Rtp.{rtp_holds}
use Rattle.cursor_packet.specs.Frame.{frame_checks}
use Rattle.cursor_packet.specs.Position.{position_checks, position_at, read_position}
use Rattle.cursor_fragment.specs.Fragment.{takes_type, header_length, image_data, offset_bits, outside, fragment_frame, fragment_checks, fragment_status}
use Rattle.text.specs.Range.{within}
use Rattle.text.specs.Hex.{digit_value, is_digit, number as hex_number, read_digits}

-- A, the message of the table, after its Size: Version, Command, a Friendly Name, the RTSP Port 1C44, a Source ID of sixteen bytes 07
after_size : List ℕ
after_size = 1 ∷ 1 ∷ 0 ∷ 0 ∷ 2 ∷ 0x41 ∷ 0 ∷ 2 ∷ 0 ∷ 2 ∷ 0x1c ∷ 0x44 ∷ 3 ∷ 0 ∷ 16 ∷ replicate 16 7

-- the same without its port TLV
without_port : List ℕ
without_port = 1 ∷ 1 ∷ 0 ∷ 0 ∷ 2 ∷ 0x41 ∷ 0 ∷ 3 ∷ 0 ∷ 16 ∷ replicate 16 7

pub data Example : Type 0 where
  -- a message is accepted, with this RTSP port
  port : List ℕ → ℕ → Example
  -- a message is refused, with this number and place
  refused : List ℕ → ℕ → ℕ → Example
  -- whether a new sequence number is newer than the last
  newer : ℕ → ℕ → Bool → Example
  -- a position packet is read as this position
  position : List ℕ → ℤ → ℤ → Example
  -- a fragment's packet is answered with this number, before the picture's rules
  fragment : List ℕ → ℕ → Example
  -- hexadecimal digits are this number
  digits : List ℕ → ℕ → Example
  -- a fresh session, which is Waiting, is closed by this event, accepted
  closes : ℕ → Example

-- an RTP header with sequence number 5
rtp : List ℕ
rtp = 0x80 ∷ 0 ∷ 0 ∷ 5 ∷ replicate 8 0

-- a continuation of total 8 with this PacketMsgSize, and what stands after its image id
of_total8 : ℕ → List ℕ → List ℕ
of_total8 size rest = rtp ++ (3 ∷ 0 ∷ size ∷ 0 ∷ 0 ∷ 0 ∷ 8 ∷ 0 ∷ 1 ∷ rest)

pub examples : List Example
examples =
    -- P1 A: accepted, port 7236
    port (0 ∷ 0x21 ∷ after_size) 7236 ∷
    -- P2 A with Size 0022: 1
    refused (0 ∷ 0x22 ∷ after_size) 1 0 ∷
    -- P3 A and one byte 00: 2
    refused ((0 ∷ 0x21 ∷ after_size) ++ (0 ∷ [])) 2 0 ∷
    -- P4 no bytes: 1
    refused [] 1 0 ∷
    -- P5 `00 03 01 01`: 2
    refused (0 ∷ 3 ∷ 1 ∷ 1 ∷ []) 2 0 ∷
    -- P6 A without its port TLV, Size 001C: 8, place 28
    refused (0 ∷ 0x1c ∷ without_port) 8 28 ∷
    -- P7 last 65,535, new 0: newer
    newer 65535 0 true ∷
    -- P8 last 0: 32,767 newer, 32,768 and 0 not
    newer 0 32767 true ∷
    newer 0 32768 false ∷
    newer 0 0 false ∷
    -- P9 `80 00 00 05`, eight zeros, `01 00 07 FF FE 00 0A`: position −2 (`negsuc 1`), 10
    position (rtp ++ (1 ∷ 0 ∷ 7 ∷ 0xff ∷ 0xfe ∷ 0 ∷ 0x0a ∷ [])) (negsuc 1) (pos 10) ∷
    -- P10 total 8: offset 8 with no data fits; offset 7 with two bytes is 9; offset FFFFFFFF hex is 9
    fragment (of_total8 13 (0 ∷ 0 ∷ 0 ∷ 8 ∷ [])) 0 ∷
    fragment (of_total8 15 (0 ∷ 0 ∷ 0 ∷ 7 ∷ 1 ∷ 2 ∷ [])) 9 ∷
    fragment (of_total8 13 (0xff ∷ 0xff ∷ 0xff ∷ 0xff ∷ [])) 9 ∷
    -- P11 `0100` is 256
    digits (0x30 ∷ 0x31 ∷ 0x30 ∷ 0x30 ∷ []) 256 ∷
    -- P12 Waiting, Stop Projection: Closed, accepted
    closes 2 ∷ []

is_port : List ℕ → ℕ → Result Message Refused → Bool
is_port s n (Ok m) = eqb (port_of s m) n
is_port s n (Err r) = false

same : Bool → Bool → Bool
same true b = b
same false b = not b

same_integer : ℤ → ℤ → Bool
same_integer (pos a) (pos b) = eqb a b
same_integer (pos a) (negsuc b) = false
same_integer (negsuc a) (pos b) = false
same_integer (negsuc a) (negsuc b) = eqb a b

is_position : ℤ → ℤ → Result Position Refused → Bool
is_position x y (Ok p) = same_integer p.x x && same_integer p.y y
is_position x y (Err r) = false

is_number : ℕ → Option ℕ → Bool
is_number n (Some v) = eqb v n
is_number n None = false

is_closed : State → Bool
is_closed state.Waiting = false
is_closed state.Handshake = false
is_closed state.PinWait = false
is_closed state.ReadyWait = false
is_closed state.Projecting = false
is_closed state.Closed = true

closes_it : Stepped → Bool
closes_it r = eqb (numbered r.answer).number 0 && is_closed r.session.state

-- whether the definitions give what the example says
pub holds : Example → Bool
holds (port s n) = is_port s n (read_message s)
holds (refused s n place) = eqb (numbered (read_message s)).number n && eqb (numbered (read_message s)).place place
holds (newer last new b) = same (is_newer true last new) b
holds (position packet x y) = is_position x y (read_position packet)
holds (fragment packet n) = eqb (number_of (fragment_status packet)) n
holds (digits text n) = is_number n (read_digits text)
holds (closes event) = closes_it (step_of fresh_session event no_source 0)

pub all_hold : List Example → Bool
all_hold [] = true
all_hold (x ∷ xs) = holds x && all_hold xs

-- the twelve, each tested by what the definitions compute
pub examples_hold : all_hold examples ≡ true
unfolding
    examples after_size without_port rtp of_total8 is_port same same_integer is_position is_number is_closed closes_it holds all_hold
    all_below number_in distance is_newer signed
    roles_of role_of lengths_of length_in length_ok known_command field_of with_field empty_of header_status has_needed is_complete tlv_at last_of tlvs_from read_message port_of
    first_of rtp_holds frame_checks position_checks position_at read_position
    takes_type header_length image_data offset_bits outside fragment_frame fragment_checks
    within digit_value is_digit hex_number read_digits
    is_event carried other_source options_from source_after accepted step_of
examples_hold = refl
