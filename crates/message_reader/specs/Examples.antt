-- 01, "Proved table of small examples": P1 to P6, as one theorem over their list; and small messages that meet the premises of the theorems.
-- Assumes nothing.
use Rattle.std.specs.Prelude.{ℕ, ◌≡◌, refl, List, [], ◌∷◌, ◌++◌, Bool, true, false, ◌&&◌, length, replicate, eqb, Ok, Err}
use Rattle.std.proofs.Common.{inl, inr, arith}
use Rattle.wire.specs.Checks.{first_of}
use Rattle.wire.specs.Number.{number_in}
use Rattle.wire.specs.Numbered.{numbered, accepted_as}
use Rattle.wire.specs.declared.status.Refusal.{Refusal as Reason}
use Rattle.wire.specs.declared.status.Refusal.TheVariants as refusal
use Rattle.message_rules.specs.declared.record.Field.{Field}
use Rattle.message_rules.specs.declared.record.Message.{Message}
use Rattle.message_rules.specs.Rules.{foreign, needed, optional, roles_of, role_of, lengths_of, length_in, length_ok, known_command}
use Rattle.wire.specs.Below.{all_below}
use Rattle.message_rules.specs.Record.{absent, field_of, with_field, empty_of, tlv_size, size_to}
use Rattle.message_reader.specs.Reading.{Answer, header_status, type_at, length_at, tlv_at, has_needed, is_complete, last_of}
use Rattle.message_reader.specs.Reading.{tlvs_from, read_message}
use Rattle.message_rules.proofs.Laws.Rules.{same_role_false, needed_own, each_type, type_small}
use Rattle.message_reader.specs.Theorems.{Refusal, Acceptance}
use Rattle.message_reader.specs.Theorems as given
use Rattle.message_rules.specs.Accessors.{port_of}

-- bytes, and what reading them gives: accepted with an RTSP port, or a refusal number and its place
pub data Example : Type 0 where
  port : List ℕ → ℕ → Example
  refused : List ℕ → ℕ → ℕ → Example

-- A without its Size
tail : List ℕ
tail = 1 ∷ 1 ∷ 0 ∷ 0 ∷ 2 ∷ 0x41 ∷ 0 ∷ 2 ∷ 0 ∷ 2 ∷ 0x1c ∷ 0x44 ∷ 3 ∷ 0 ∷ 16 ∷ replicate 16 7

-- the same without its port TLV
short : List ℕ
short = 1 ∷ 1 ∷ 0 ∷ 0 ∷ 2 ∷ 0x41 ∷ 0 ∷ 3 ∷ 0 ∷ 16 ∷ replicate 16 7

-- P1 to P6. P6 as 01 prints it: A without its port TLV, Size 001C
pub examples : List Example
examples =
    port (0 ∷ 0x21 ∷ tail) 7236 ∷
    refused (0 ∷ 0x22 ∷ tail) 1 0 ∷
    refused (0 ∷ 0x21 ∷ (tail ++ (0 ∷ []))) 2 0 ∷
    refused [] 1 0 ∷
    refused (0 ∷ 3 ∷ 1 ∷ 1 ∷ []) 2 0 ∷
    refused (0 ∷ 0x1c ∷ short) 8 28 ∷ []

gives_port : List ℕ → ℕ → Answer → Bool
gives_port s p (Ok m) = eqb (port_of s m) p
gives_port s p (Err r) = false

pub holds : Example → Bool
holds (port s p) = gives_port s p (read_message s)
holds (refused s number place) = eqb (numbered (read_message s)).number number && eqb (numbered (read_message s)).place place

pub all : List Example → Bool
all [] = true
all (x ∷ xs) = holds x && all xs

pub examples_hold : all examples ≡ true
unfolding tail short gives_port holds examples all number_in roles_of role_of lengths_of length_in length_ok known_command field_of with_field empty_of
    all_below has_needed is_complete first_of header_status tlv_at last_of tlvs_from read_message port_of
examples_hold = refl

-- The premises of the theorems are met, most by messages of command 3, whose one needed TLV is a Security Token, type 4.

-- RefusedExactly: the condition of each number, with its place, and what is then answered
abbrev Met : List ℕ → Reason → ℕ → ℕ → Type 0
Met s r number place = Refusal s r place × (numbered (read_message s) ≡ record { number = number; place = place })

-- 1: no bytes; four that declare five
pub before_header : Met [] refusal.Truncated 1 0
unfolding number_in known_command first_of header_status read_message
before_header = (given.before_header (omega arith), refl)

pub before_size : Met (0 ∷ 5 ∷ 1 ∷ 3 ∷ []) refusal.Truncated 1 0
unfolding number_in known_command first_of header_status read_message
before_size = (given.before_size (omega arith) (omega arith) (omega arith), refl)

-- 2: a Size of 3; a byte after a Size of 4
pub below_header : Met (0 ∷ 3 ∷ 1 ∷ 3 ∷ []) refusal.WrongSize 2 0
unfolding number_in known_command first_of header_status read_message
below_header = (given.below_header (omega arith) (omega arith), refl)

pub left_over : Met (0 ∷ 4 ∷ 1 ∷ 3 ∷ 0 ∷ []) refusal.WrongSize 2 0
unfolding number_in known_command first_of header_status read_message
left_over = (given.left_over (omega arith) (omega arith), refl)

-- 3: Version 2; 4: command 7
pub version_2 : Met (0 ∷ 4 ∷ 2 ∷ 3 ∷ []) refusal.WrongHeader 3 0
unfolding number_in known_command first_of header_status read_message
version_2 = (given.version (omega arith) refl (λ e. omega arith), refl)

pub command_7 : Met (0 ∷ 4 ∷ 1 ∷ 7 ∷ []) refusal.UnknownKind 4 0
unfolding number_in known_command first_of header_status read_message
command_7 = (given.command (omega arith) refl refl refl, refl)

-- 5: one byte for a TLV; a value of one byte that is not there
pub no_tlv : Met (0 ∷ 5 ∷ 1 ∷ 3 ∷ 4 ∷ []) refusal.TlvTruncated 5 4
unfolding number_in roles_of role_of lengths_of length_in length_ok known_command field_of with_field empty_of first_of header_status tlv_at tlvs_from read_message
no_tlv = (
  given.tlv (record { four = omega arith; size = refl; version = refl; command = refl })
      given.start (omega arith) (given.truncated (inl (omega arith))),
  refl,
)

pub no_value : Met (0 ∷ 7 ∷ 1 ∷ 3 ∷ 4 ∷ 0 ∷ 1 ∷ []) refusal.TlvTruncated 5 4
unfolding number_in roles_of role_of lengths_of length_in length_ok known_command field_of with_field empty_of first_of header_status tlv_at tlvs_from read_message
no_value = (
  given.tlv (record { four = omega arith; size = refl; version = refl; command = refl })
      given.start (omega arith) (given.truncated (inr (omega arith))),
  refl,
)

-- 8: type 1, which there is not; 6: a Security Token of no bytes
pub unknown : Met (0 ∷ 7 ∷ 1 ∷ 3 ∷ 1 ∷ 0 ∷ 0 ∷ []) refusal.TlvUnexpected 8 4
unfolding number_in roles_of role_of lengths_of length_in length_ok known_command field_of with_field empty_of first_of header_status tlv_at tlvs_from read_message
unknown = (
  given.tlv (record { four = omega arith; size = refl; version = refl; command = refl })
      given.start (omega arith) (given.unexpected (omega arith) refl),
  refl,
)

pub empty_token : Met (0 ∷ 7 ∷ 1 ∷ 3 ∷ 4 ∷ 0 ∷ 0 ∷ []) refusal.TlvLength 6 4
unfolding number_in roles_of role_of lengths_of length_in length_ok known_command field_of with_field empty_of first_of header_status tlv_at tlvs_from read_message
empty_token = (
  given.tlv (record { four = omega arith; size = refl; version = refl; command = refl })
      given.start (omega arith) (given.length_wrong (omega arith) (needed_own needed refl) refl),
  refl,
)

-- 7: a second Security Token, at place 8
pub two_tokens : Met (0 ∷ 12 ∷ 1 ∷ 3 ∷ 4 ∷ 0 ∷ 1 ∷ 9 ∷ 4 ∷ 0 ∷ 1 ∷ 9 ∷ []) refusal.TlvRepeated 7 8
unfolding number_in roles_of role_of lengths_of length_in length_ok known_command field_of with_field empty_of first_of header_status tlv_at tlvs_from read_message
two_tokens = (
  given.tlv (record { four = omega arith; size = refl; version = refl; command = refl })
      (given.next given.start (record { whole = omega arith; expected = needed_own needed refl; fitting = refl; first = refl }))
      (omega arith) (given.repeated (omega arith) (needed_own needed refl) refl refl),
  refl,
)

-- 8: no Security Token, and the place is the number of bytes
pub no_token : Met (0 ∷ 4 ∷ 1 ∷ 3 ∷ []) refusal.TlvUnexpected 8 4
unfolding number_in roles_of role_of lengths_of length_in length_ok known_command field_of with_field empty_of all_below has_needed is_complete first_of
    header_status tlv_at last_of tlvs_from read_message
no_token = (given.missing 4 (record { four = omega arith; size = refl; version = refl; command = refl }) given.start refl refl, refl)

-- a value of len bytes; a record of command c with this RTSP Port, Source ID and Security Token
abbrev pub there : ℕ → ℕ → Field
there at len = record { present = true; at = at; len = len }

abbrev pub record_of : ℕ → Field → Field → Field → Message
record_of c rtsp source token =
    record {
      command = c;
      friendly_name = absent;
      rtsp_port = rtsp;
      source_id = source;
      security_token = token;
      security_options = absent;
      pin_challenge = absent;
      pin_reason = absent;
    }

-- a Security Handshake with a token of one byte, and its record
abbrev pub handshake : List ℕ
handshake = 0 ∷ 8 ∷ 1 ∷ 3 ∷ 4 ∷ 0 ∷ 1 ∷ 9 ∷ []

abbrev pub handshake_record : Message
handshake_record = record_of 3 absent absent (there 7 1)

-- its token is all that it needs
foreign_not_needed : {A : Type 0} → foreign ≡ needed → A
foreign_not_needed e = absurd (same_role_false foreign needed refl e)

pub complete : (t : ℕ) → role_of 3 t ≡ needed → (field_of handshake_record t).present ≡ true
unfolding roles_of role_of field_of
complete t e =
    each_type (λ u. role_of 3 u ≡ needed → (field_of handshake_record u).present ≡ true) foreign_not_needed foreign_not_needed foreign_not_needed
    (λ f. absurd (same_role_false optional needed refl f)) (λ f. refl) foreign_not_needed foreign_not_needed foreign_not_needed t (type_small 3 t (needed_own (role_of 3 t) e)) e

-- AcceptedExactly: it is right, and is accepted with that record
-- ZeroExactly: so its number is 0
pub handshake_accepted
    : Acceptance handshake handshake_record × (read_message handshake ≡ Ok handshake_record)
    × (numbered (read_message handshake) ≡ accepted_as)
unfolding number_in roles_of role_of lengths_of length_in length_ok known_command field_of with_field empty_of all_below has_needed is_complete first_of
    header_status tlv_at last_of tlvs_from read_message
handshake_accepted = (
  record {
    headed = record { four = omega arith; size = refl; version = refl; command = refl };
    reached = given.next given.start (record { whole = omega arith; expected = needed_own needed refl; fitting = refl; first = refl });
    complete = complete;
  },
  refl,
  refl,
)

-- AcceptedWellFormed: the same message, of 8 bytes; right before its value at 7 stand the type 4 and the length 1
pub well_formed
    : (read_message handshake ≡ Ok handshake_record) × (size_to handshake_record 8 ≡ length handshake) × (type_at handshake 4 ≡ 4)
    × (length_at handshake 4 ≡ 1)
unfolding number_in roles_of role_of lengths_of length_in length_ok known_command field_of with_field empty_of tlv_size size_to all_below has_needed
    is_complete first_of header_status tlv_at last_of tlvs_from read_message
well_formed = (refl, refl, refl, refl)
