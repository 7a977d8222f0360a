-- A line of the listing (01, "Session listing"). Assumes nothing.
use Rattle.std.specs.Prelude.{ℕ, List, cond, length, take, eqb, Ok, Err}
use Rattle.wire.specs.Status.{refusal_number}
use Rattle.message_reader.specs.Reading.{Answer, read_message}
use Rattle.message_recording.specs.Cut.{needed_of}
use Rattle.message_recording.specs.declared.line.Line.{Line}
use Rattle.message_recording.specs.declared.line.Line.TheVariants as line

-- what is shown of a message of n bytes: its command and size, or its refusal, whose place inside the message is not shown
abbrev pub shown : ℕ → Answer → Line
shown n (Ok m) = line.Message m.command n
shown n (Err r) = line.Refused r.refusal

-- the paper's number of a line: 0 for a message and for the end, else the refusal's
abbrev pub line_number : Line → ℕ
line_number (line.Message c n) = 0
line_number (line.Refused r) = refusal_number r
line_number line.End = 0

-- the line of the bytes s from one place on: none left is the end; else the reader's answer on those that decide it, or on all where fewer are
-- left
unfoldable pub line_of : List ℕ → Line
line_of s = cond (eqb (length s) 0) line.End (shown (needed_of s) (read_message (take (needed_of s) s)))
