-- The record of a message. Assumes nothing.
use Rattle.std.specs.Prelude.{ℕ, zero, suc, ◌+◌, List, false, cond, take, drop, eqb}
use Rattle.message_rules.specs.declared.record.Field.{Field}
use Rattle.message_rules.specs.declared.record.Message.{Message}

-- the value's bytes, in the lent bytes s
abbrev pub value_of : List ℕ → Field → List ℕ
value_of s f = take f.len (drop f.at s)

abbrev pub absent : Field
absent = record { present = false; at = 0; len = 0 }

-- the field of type t; a type that the record doesn't have is absent
unfoldable pub field_of : Message → ℕ → Field
field_of m t =
    cond (eqb t 0) m.friendly_name
    (cond (eqb t 2) m.rtsp_port
    (cond (eqb t 3) m.source_id
    (cond (eqb t 4) m.security_token
    (cond (eqb t 5) m.security_options
    (cond (eqb t 6) m.pin_challenge
    (cond (eqb t 7) m.pin_reason
    absent))))))

-- m, with f for the field of type t
unfoldable pub with_field : Message → ℕ → Field → Message
with_field m t f =
    record {
      command = m.command;
      friendly_name = cond (eqb t 0) f m.friendly_name;
      rtsp_port = cond (eqb t 2) f m.rtsp_port;
      source_id = cond (eqb t 3) f m.source_id;
      security_token = cond (eqb t 4) f m.security_token;
      security_options = cond (eqb t 5) f m.security_options;
      pin_challenge = cond (eqb t 6) f m.pin_challenge;
      pin_reason = cond (eqb t 7) f m.pin_reason;
    }

-- the record of command c with no TLV
unfoldable pub empty_of : ℕ → Message
empty_of c =
    record {
      command = c;
      friendly_name = absent;
      rtsp_port = absent;
      source_id = absent;
      security_token = absent;
      security_options = absent;
      pin_challenge = absent;
      pin_reason = absent;
    }

-- the number of bytes of a field's TLV, if it is there: Type, Length and the value
unfoldable pub tlv_size : Field → ℕ
tlv_size f = cond f.present (3 + f.len) 0

-- the number of bytes of the header and the TLVs of the types below t
unfoldable pub size_to : Message → ℕ → ℕ
size_to m zero = 4
size_to m (suc t) = size_to m t + tlv_size (field_of m t)
