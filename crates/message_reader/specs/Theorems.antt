-- The theorems on reading, as named types, with 01's sentences. Their proofs stand in proofs/Laws. Assumes nothing.
use Rattle.std.specs.Prelude.{ℕ, ◌+◌, ◌-◌, ◌≤◌, ◌<◌, ◌≡◌, List, true, false, ◌⊎◌, length, Ok}
use Rattle.wire.specs.Numbered.{numbered, accepted_as, refused_as}
use Rattle.wire.specs.Status.{refused_at}
use Rattle.wire.specs.declared.status.Refusal.{Refusal as Reason}
use Rattle.wire.specs.declared.status.Refusal.TheVariants as refusal
use Rattle.message_rules.specs.declared.record.Field.{Field}
use Rattle.message_rules.specs.declared.record.Message.{Message}
use Rattle.message_rules.specs.Rules.{role_of, foreign, needed, length_ok, known_command}
use Rattle.message_rules.specs.Record.{field_of, with_field, empty_of, size_to}
use Rattle.message_reader.specs.Reading.{size_in, version_in, command_in, type_at, length_at, next_at, value_at, read_message}

-- ---- Each number exactly under its condition

-- The header is right: four bytes or more, as many as Size says, Version 1, a command that there is.
pub record Headed (s : List ℕ) : Type 0 where
  pub four : 4 ≤ length s
  pub size : size_in s ≡ length s
  pub version : version_in s ≡ 1
  pub command : known_command (command_in s) ≡ true

-- The TLV at `at` is right after those of m: within the message, of a type of the command, of a length of its type, for the first time.
pub record RightTlv (s : List ℕ) (at : ℕ) (m : Message) : Type 0 where
  pub whole : next_at s at ≤ length s
  pub expected : role_of m.command (type_at s at) ≡ foreign → ⊥
  pub fitting : length_ok (type_at s at) (length_at s at) ≡ true
  pub first : (field_of m (type_at s at)).present ≡ false

-- The TLVs from the header up to `at`, left to right, are right, and m is their record.
pub data Reached (s : List ℕ) : ℕ → Message → Type 0 where
  start : Reached s 4 (empty_of (command_in s))
  next : {at : ℕ} {m : Message} → Reached s at m → RightTlv s at m → Reached s (next_at s at) (with_field m (type_at s at) (value_at s at))

-- What is wrong with the TLV at `at`, after those of m, first in the order of checks.
pub data Fault (s : List ℕ) (at : ℕ) (m : Message) : Reason → Type 0 where
  -- 5: fewer than 3 bytes left for a TLV, or its value runs past the message
  truncated : (length s < at + 3) ⊎ (length s < next_at s at) → Fault s at m refusal.TlvTruncated
  -- 8: unknown TLV, or one foreign to the command
  unexpected : next_at s at ≤ length s → role_of m.command (type_at s at) ≡ foreign → Fault s at m refusal.TlvUnexpected
  -- 6: TLV length wrong for its type
  length_wrong : next_at s at ≤ length s → (role_of m.command (type_at s at) ≡ foreign → ⊥) → length_ok (type_at s at) (length_at s at) ≡ false
      → Fault s at m refusal.TlvLength
  -- 7: a TLV for the second time
  repeated : next_at s at ≤ length s → (role_of m.command (type_at s at) ≡ foreign → ⊥) → length_ok (type_at s at) (length_at s at) ≡ true
      → (field_of m (type_at s at)).present ≡ true → Fault s at m refusal.TlvRepeated

-- 01, "Refusal numbers": the condition of each number, first in the order of checks, and its place.
pub data Refusal (s : List ℕ) : Reason → ℕ → Type 0 where
  -- 1: the bytes end before the fixed header or the declared size
  before_header : length s < 4 → Refusal s refusal.Truncated 0
  before_size : 4 ≤ length s → 4 ≤ size_in s → length s < size_in s → Refusal s refusal.Truncated 0
  -- 2: declared size below the header, or bytes left over after it
  below_header : 4 ≤ length s → size_in s < 4 → Refusal s refusal.WrongSize 0
  left_over : 4 ≤ size_in s → size_in s < length s → Refusal s refusal.WrongSize 0
  -- 3: Version not 1
  version : 4 ≤ length s → size_in s ≡ length s → (version_in s ≡ 1 → ⊥) → Refusal s refusal.WrongHeader 0
  -- 4: unknown command
  command : 4 ≤ length s → size_in s ≡ length s → version_in s ≡ 1 → known_command (command_in s) ≡ false → Refusal s refusal.UnknownKind 0
  -- 5, 8, 6, 7: a fault of a TLV, all before it being right; the place is its first byte
  tlv : {r : Reason} {at : ℕ} {m : Message} → Headed s → Reached s at m → at < length s → Fault s at m r → Refusal s r at
  -- 8: one missing, all that are there being right; the place is the number of bytes of the whole message
  missing : {m : Message} (t : ℕ) → Headed s → Reached s (length s) m → role_of m.command t ≡ needed → (field_of m t).present ≡ false
      → Refusal s refusal.TlvUnexpected (length s)

-- Header and TLVs are right to the end, m is their record, and it has what the command needs.
pub record Acceptance (s : List ℕ) (m : Message) : Type 0 where
  pub headed : Headed s
  pub reached : Reached s (length s) m
  pub complete : (t : ℕ) → role_of m.command t ≡ needed → (field_of m t).present ≡ true

-- "Each number is given exactly under its condition, first in the order of checks." Each with its place; 0 exactly for an accepted message.
unfoldable pub RefusedExactly : Type 0
RefusedExactly =
    (s : List ℕ) (r : Reason) (place : ℕ)
    → (Refusal s r place → numbered (read_message s) ≡ refused_as (refused_at r place))
    × (numbered (read_message s) ≡ refused_as (refused_at r place) → Refusal s r place)

unfoldable pub ZeroExactly : Type 0
ZeroExactly =
    (s : List ℕ)
    → ((numbered (read_message s)).number ≡ 0 → (m : Message) × Acceptance s m)
    × ((m : Message) → Acceptance s m → numbered (read_message s) ≡ accepted_as)

-- An accepted message is answered with its record, and no other is.
unfoldable pub AcceptedExactly : Type 0
AcceptedExactly =
    (s : List ℕ) (m : Message) → (read_message s ≡ Ok m → Acceptance s m) × (Acceptance s m → read_message s ≡ Ok m)

-- ---- Acceptance means well-formed

-- The value f of type t, in a message of command c, lies after the header and before `end`, with its TLV's Type and Length right before it;
-- the type belongs to the command, and the length is one of its type.
pub record Placed (s : List ℕ) (c t : ℕ) (f : Field) (end : ℕ) : Type 0 where
  pub past_header : 7 ≤ f.at
  pub within : f.at + f.len ≤ end
  pub type : type_at s (f.at - 3) ≡ t
  pub length_declared : length_at s (f.at - 3) ≡ f.len
  pub expected : role_of c t ≡ foreign → ⊥
  pub fitting : length_ok t f.len ≡ true

-- The TLV of f ends before that of g begins.
abbrev pub Before : Field → Field → Type 0
Before f g = f.at + f.len ≤ g.at - 3

pub record WellFormed (s : List ℕ) (m : Message) : Type 0 where
  -- Size, and the header with the record's TLVs, are the whole message
  pub size : size_in s ≡ length s
  pub filled : size_to m 8 ≡ length s
  pub version : version_in s ≡ 1
  pub command : m.command ≡ command_in s
  pub known : known_command m.command ≡ true
  -- each value lies within the message
  pub placed : (t : ℕ) → (field_of m t).present ≡ true → Placed s m.command t (field_of m t) (length s)
  -- no two TLVs overlap
  pub apart
      : (t u : ℕ) → (t ≡ u → ⊥) → (field_of m t).present ≡ true → (field_of m u).present ≡ true
      → Before (field_of m t) (field_of m u) ⊎ Before (field_of m u) (field_of m t)
  -- each TLV that the command needs is there
  pub complete : (t : ℕ) → role_of m.command t ≡ needed → (field_of m t).present ≡ true

-- An accepted message is well-formed.
unfoldable pub AcceptedWellFormed : Type 0
AcceptedWellFormed = (s : List ℕ) (m : Message) → read_message s ≡ Ok m → WellFormed s m
