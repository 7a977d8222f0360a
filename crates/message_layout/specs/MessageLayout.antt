-- The record of a message as bytes. Assumes nothing.
use Rattle.std.specs.Prelude.{ℕ, ◌+◌, ◌^◌, ◌≤◌, ◌<◌, ◌≡◌, List, ◌++◌, length, Ok}
use Rattle.message_rules.specs.declared.record.Field.{Field}
use Rattle.message_rules.specs.declared.record.Message.{Message}
use Rattle.message_rules.specs.Record.{field_of}
use Rattle.message_reader.specs.Reading.{read_message}
use Rattle.wire.specs.Number.{Bytes}
use Rattle.wire.specs.Laid.{laid}
use Rattle.wire.specs.Layout.{flag, is_set}
use Rattle.wire.specs.LittleEndian.{number_at, bytes}

-- a field: whether it is there, the place and the length of its value
unfoldable pub field_bytes : Field → List ℕ
field_bytes f = bytes 1 (flag f.present) ++ bytes 4 f.at ++ bytes 4 f.len

unfoldable pub field_in : List ℕ → ℕ → Field
field_in xs at = record { present = is_set (number_at 1 xs at); at = number_at 4 xs (at + 1); len = number_at 4 xs (at + 5) }

-- the command, and the fields by rising type
unfoldable pub message_bytes : Message → List ℕ
message_bytes m =
    bytes 1 m.command
    ++ field_bytes m.friendly_name
    ++ field_bytes m.rtsp_port
    ++ field_bytes m.source_id
    ++ field_bytes m.security_token
    ++ field_bytes m.security_options
    ++ field_bytes m.pin_challenge
    ++ field_bytes m.pin_reason

unfoldable pub message_in : List ℕ → Message
message_in xs =
    record {
      command = number_at 1 xs 0;
      friendly_name = field_in xs 1;
      rtsp_port = field_in xs 10;
      source_id = field_in xs 19;
      security_token = field_in xs 28;
      security_options = field_in xs 37;
      pin_challenge = field_in xs 46;
      pin_reason = field_in xs 55;
    }

-- What is written reads back. The proofs stand in proofs/Laws/MessageLayout.antt.

-- place and length are below 2^32
abbrev pub Fits : Field → Type 0
Fits f = (f.at < 256 ^ 4) × (f.len < 256 ^ 4)

-- any record whose places and lengths are
abbrev pub MessageBack : Type 0
MessageBack =
    (m : Message) (xs : List ℕ) → 64 ≤ length xs → m.command < 256 → ((t : ℕ) → Fits (field_of m t))
    → message_in (laid (message_bytes m) xs) ≡ m

-- so the record of every accepted message
abbrev pub AcceptedBack : Type 0
AcceptedBack =
    (s : List ℕ) (m : Message) (xs : List ℕ) → Bytes s → read_message s ≡ Ok m → 64 ≤ length xs
    → message_in (laid (message_bytes m) xs) ≡ m
