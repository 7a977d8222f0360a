-- Records that meet the premises of the theorems, from the message of 8 bytes of `message_reader Examples`. Each is computed. Assumes nothing.
use Rattle.std.specs.Prelude.{ℕ, ◌≤◌, ◌<◌, ◌≡◌, refl, List, length, replicate, Ok}
use Rattle.std.proofs.Common.{arith}
use Rattle.std.proofs.Math.Decide.{dec_lt}
use Rattle.wire.specs.Below.{all_below}
use Rattle.wire.specs.Checks.{first_of}
use Rattle.wire.specs.Laid.{laid}
use Rattle.wire.specs.LittleEndian.{number_at}
use Rattle.wire.specs.Number.{number_in, bytes_in, Bytes}
use Rattle.wire.specs.Splice.{splice}
use Rattle.wire.proofs.Laws.Below.{bytes_computed}
use Rattle.message_rules.specs.Rules.{roles_of, role_of, lengths_of, length_in, length_ok, known_command}
use Rattle.message_rules.specs.Record.{absent, field_of, with_field, empty_of}
use Rattle.message_rules.proofs.Laws.Rules.{each_type}
use Rattle.message_rules.proofs.Laws.Record.{past}
use Rattle.message_reader.specs.Reading.{header_status, tlv_at, has_needed, is_complete, last_of, tlvs_from, read_message}
use Rattle.message_reader.specs.Examples.{handshake, handshake_record}
use Rattle.message_layout.specs.MessageLayout.{field_bytes, field_in, message_bytes, message_in, Fits}

-- lent bytes, one more than the layout has
abbrev lent : List ℕ
lent = replicate 65 5

-- The premises of the theorems are met.

-- MessageBack: the record of a Security Handshake, whose token is a byte at 7
pub message_back
    : (64 ≤ length lent) × (3 < 256) × ((t : ℕ) → Fits (field_of handshake_record t)) × (message_in (laid (message_bytes handshake_record) lent) ≡ handshake_record)
unfolding field_of number_in bytes_in number_at splice laid field_bytes field_in message_bytes message_in
message_back = (omega arith, omega arith, fits, refl)
  where
    fits : (t : ℕ) → Fits (field_of handshake_record t)
    fits t = elim (dec_lt t 8) [
      | yes h ↦ each_type (λ u. Fits (field_of handshake_record u)) none none none none (omega arith, omega arith) none none none t h
      | no h ↦ rw (past handshake_record t (omega arith)) none
    ]
      where
        none : Fits absent
        none = (omega arith, omega arith)

-- AcceptedBack: the message that it was read from
pub accepted_back
    : Bytes handshake × (read_message handshake ≡ Ok handshake_record) × (64 ≤ length lent)
    × (message_in (laid (message_bytes handshake_record) lent) ≡ handshake_record)
unfolding number_in roles_of role_of lengths_of length_in length_ok known_command field_of with_field empty_of all_below has_needed is_complete first_of
    header_status tlv_at last_of tlvs_from read_message bytes_in number_at splice laid field_bytes field_in message_bytes message_in
accepted_back = (bytes_computed handshake refl, refl, omega arith, refl)
