-- A step by the bytes of one message (01, "Sink session"; "A later step goes on only when the reader accepted"). Assumes nothing.
use Rattle.std.specs.Prelude.{ℕ, List, Ok, Err}
use Rattle.message_reader.specs.Reading.{Answer, read_message}
use Rattle.message_rules.specs.Accessors.{source_of, options_of}
use Rattle.session_table.specs.declared.record.Session.{Session}
use Rattle.session_step.specs.declared.step.Stepped.{Stepped}
use Rattle.session_step.specs.Step.{refused, step_of}

-- an accepted message is stepped with: its command, its Source ID and its option byte, which stand in the bytes; the reader's refusal is passed
-- on with its place, and the session stays
abbrev pub after_read : List ℕ → Session → Answer → Stepped
after_read bytes s (Ok m) = step_of s m.command (source_of bytes m) (options_of bytes m)
after_read bytes s (Err r) = refused r.refusal r.place s

unfoldable pub on_message : Session → List ℕ → Stepped
on_message s bytes = after_read bytes s (read_message bytes)
