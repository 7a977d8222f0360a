-- What a record and the bytes that it was read from say. Assumes nothing.
use Rattle.std.specs.Prelude.{ℕ, ◌+◌, List, true, false, cond, ◌&&◌, length, take, drop, replicate, leb}
use Rattle.wire.specs.Number.{number}
use Rattle.message_rules.specs.declared.accessors.SourceId.{SourceId}
use Rattle.message_rules.specs.declared.record.Message.{Message}

-- the RTSP port: the number in two bytes at its place, where a byte past the end counts as 0; 0 where it is absent
unfoldable pub port_of : List ℕ → Message → ℕ
port_of s m = cond m.rtsp_port.present (number 2 s m.rtsp_port.at) 0

-- the option byte (001 section 2.2.7.5), in the same way
unfoldable pub options_of : List ℕ → Message → ℕ
options_of s m = cond m.security_options.present (number 1 s m.security_options.at) 0

-- no Source ID
abbrev pub no_source : SourceId
no_source = record { present = false; bytes = replicate 16 0 }

-- the Source ID: the 16 bytes at its place, where they lie within s
unfoldable pub source_of : List ℕ → Message → SourceId
source_of s m =
    cond (m.source_id.present && leb (m.source_id.at + 16) (length s))
    (record { present = true; bytes = take 16 (drop m.source_id.at s) })
    no_source
