-- What reading a message gives, in 01's order of checks: "fewer than 4 bytes 1; Size below 4, 2; fewer bytes than Size 1; more 2; then 3, 4;
-- then TLVs left to right, each 5, 8 (unknown or foreign), 6, 7; last 8 (missing)". Assumes nothing.
use Rattle.std.specs.Prelude.{ℕ, zero, suc, ◌+◌, List, [], ◌∷◌, ◌++◌, Bool, true, cond, not, length, get_or, ltb, eqb, Result, Ok, Err}
use Rattle.wire.specs.Number.{number}
use Rattle.wire.specs.Below.{all_below}
use Rattle.wire.specs.Checks.{Check, refuse, first_of}
use Rattle.wire.specs.Status.{Status, passed, refused_at}
use Rattle.wire.specs.declared.status.Refusal.{Refusal}
use Rattle.wire.specs.declared.status.Refusal.TheVariants as refusal
use Rattle.wire.specs.declared.status.Refused.{Refused}
use Rattle.message_rules.specs.declared.record.Field.{Field}
use Rattle.message_rules.specs.declared.record.Message.{Message}
use Rattle.message_rules.specs.Rules.{role_of, foreign, needed, same_role, length_ok, known_command}
use Rattle.message_rules.specs.Record.{field_of, with_field, empty_of}
use Rattle.message_reader.specs.declared.tlv.Tlv.{Tlv}

-- what reading gives: the message's record, or the refusal and its place
abbrev pub Answer : Type 0
Answer = Result Message Refused

-- ---- the header (001 section 2.2)

abbrev pub size_in : List ℕ → ℕ
size_in s = number 2 s 0

abbrev pub version_in : List ℕ → ℕ
version_in s = get_or s 2 0

abbrev pub command_in : List ℕ → ℕ
command_in s = get_or s 3 0

-- the rule of Size: the header is there, and Size counts it
abbrev pub size_checks : List ℕ → List Check
size_checks s = refuse refusal.Truncated (ltb (length s) 4) ∷ (refuse refusal.WrongSize (ltb (size_in s) 4) ∷ [])

-- the Size of the message that s begins with, or what it is refused with
unfoldable pub read_size : List ℕ → Result ℕ Refusal
read_size s = passed (first_of (size_checks s)) (size_in s)

abbrev pub header_checks : List ℕ → List Check
header_checks s =
    size_checks s
    ++ (refuse refusal.Truncated (ltb (length s) (size_in s))
    ∷ (refuse refusal.WrongSize (ltb (size_in s) (length s))
    ∷ (refuse refusal.WrongHeader (not (eqb (version_in s) 1))
    ∷ (refuse refusal.UnknownKind (not (known_command (command_in s)))
    ∷ []))))

-- that the header is right, or what it is refused with
unfoldable pub header_status : List ℕ → Status
header_status s = first_of (header_checks s)

-- ---- a TLV (001 section 2.2.7)

-- Type and Length of the TLV at `at`, the place after it, and its value
abbrev pub type_at : List ℕ → ℕ → ℕ
type_at s at = get_or s at 0

abbrev pub length_at : List ℕ → ℕ → ℕ
length_at s at = number 2 s (at + 1)

abbrev pub next_at : List ℕ → ℕ → ℕ
next_at s at = at + 3 + length_at s at

abbrev pub value_at : List ℕ → ℕ → Field
value_at s at = record { present = true; at = at + 3; len = length_at s at }

-- m is the record of the TLVs before it
abbrev pub tlv_checks : List ℕ → ℕ → Message → List Check
tlv_checks s at m =
    refuse refusal.TlvTruncated (ltb (length s) (at + 3))
    ∷ (refuse refusal.TlvTruncated (ltb (length s) (next_at s at))
    ∷ (refuse refusal.TlvUnexpected (same_role (role_of m.command (type_at s at)) foreign)
    ∷ (refuse refusal.TlvLength (not (length_ok (type_at s at) (length_at s at)))
    ∷ (refuse refusal.TlvRepeated (field_of m (type_at s at)).present
    ∷ []))))

-- its type and the length of its value, or what it is refused with
unfoldable pub tlv_at : List ℕ → ℕ → Message → Result Tlv Refusal
tlv_at s at m = passed (first_of (tlv_checks s at m)) (record { kind = type_at s at; len = length_at s at })

-- ---- the message

-- if the command needs type t, it is there
unfoldable pub has_needed : Message → ℕ → Bool
has_needed m t = cond (same_role (role_of m.command t) needed) (field_of m t).present true

-- no TLV is missing
unfoldable pub is_complete : Message → Bool
is_complete m = all_below 8 (has_needed m)

-- the answer once all n bytes are read: a TLV may be missing
unfoldable pub last_of : ℕ → Message → Answer
last_of n m = cond (is_complete m) (Ok m) (Err (refused_at refusal.TlvUnexpected n))

-- after the TLV at `at`: on from the place behind it, with its value in the record, or the refusal, whose place is that of the TLV
abbrev pub go_on : (ℕ → Message → Answer) → ℕ → Message → Result Tlv Refusal → Answer
go_on rest at m (Ok t) = rest (at + 3 + t.len) (with_field m t.kind (record { present = true; at = at + 3; len = t.len }))
go_on rest at m (Err r) = Err (refused_at r at)

-- the TLVs from `at` on, at most k of them: a TLV has three bytes or more, so the number of bytes is enough for k
unfoldable pub tlvs_from : ℕ → List ℕ → ℕ → Message → Answer
tlvs_from zero s at m = last_of (length s) m
tlvs_from (suc k) s at m = cond (ltb at (length s)) (go_on (tlvs_from k s) at m (tlv_at s at m)) (last_of (length s) m)

-- a refused header is the answer, with place 0; else the TLVs give it
abbrev pub after_header : Status → Answer → Answer
after_header (Ok u) rest = rest
after_header (Err r) rest = Err (refused_at r 0)

unfoldable pub read_message : List ℕ → Answer
read_message s = after_header (header_status s) (tlvs_from (length s) s 4 (empty_of (command_in s)))
