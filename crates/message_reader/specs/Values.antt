-- The fields of a record by TLV type: what the walk over a message leaves. Assumes nothing.
use Rattle.std.specs.Prelude.{ℕ, List, [], ◌∷◌, get_or, replicate, Result, Ok, Err}
use Rattle.wire.specs.declared.status.Refused.{Refused}
use Rattle.message_rules.specs.declared.record.Field.{Field}
use Rattle.message_rules.specs.declared.record.Message.{Message}
use Rattle.message_rules.specs.Record.{absent}
use Rattle.message_reader.specs.Reading.{Answer}

-- the record of command c with these values
unfoldable pub message_from : ℕ → List Field → Message
message_from c values =
    record {
      command = c;
      friendly_name = get_or values 0 absent;
      rtsp_port = get_or values 2 absent;
      source_id = get_or values 3 absent;
      security_token = get_or values 4 absent;
      security_options = get_or values 5 absent;
      pin_challenge = get_or values 6 absent;
      pin_reason = get_or values 7 absent;
    }

-- the values of a record, by type; there is no type 1
unfoldable pub values_of : Message → List Field
values_of m =
    m.friendly_name
    ∷ (absent
    ∷ (m.rtsp_port
    ∷ (m.source_id
    ∷ (m.security_token
    ∷ (m.security_options
    ∷ (m.pin_challenge
    ∷ (m.pin_reason
    ∷ [])))))))

-- no value of any type
abbrev pub none : List Field
none = replicate 8 absent

-- the values of an answer: those of the record, and none of a refused message
abbrev pub values_after : Answer → List Field
values_after (Ok m) = values_of m
values_after (Err r) = none

-- the command of an accepted message, or the refusal
abbrev pub command_of : Answer → Result ℕ Refused
command_of (Ok m) = Ok m.command
command_of (Err r) = Err r
