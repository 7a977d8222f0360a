-- What the calls of connection messages answer, and what the lent bytes then hold: by the definitions of the message (crate message_rules) and of
-- its record as bytes (crate message_layout). s are the lent bytes of a message, xs those of its record. Assumes nothing.
use Rattle.std.specs.Prelude.{ℕ, List, cond, ltb, length, Ok, Err}
use Rattle.wire.specs.declared.status.Refusal.TheVariants as refusal
use Rattle.wire.specs.Status.{Status, accept}
use Rattle.scan.specs.Bytes.{copied}
use Rattle.message_rules.specs.declared.accessors.SourceId.{SourceId}
use Rattle.message_reader.specs.Reading.{Answer as ReaderAnswer, read_message}
use Rattle.message_writer.specs.Writing.{write_answer, output}
use Rattle.message_rules.specs.Accessors.{port_of, options_of, source_of}
use Rattle.wire.specs.Laid.{laid}
use Rattle.message_layout.specs.MessageLayout.{message_bytes, message_in}
use Rattle.host_answers.specs.declared.Answer.{Answer}
use Rattle.host_answers.specs.declared.Number.{Number}
use Rattle.host_answers.specs.declared.Written.{Written}
use Rattle.host_answers.specs.declared.Yes.{Yes}
use Rattle.host_answers.specs.Answers.{answer_of, short, not_written, written_of, no_number, not_answered}

-- a record lies in so many bytes, or 10
unfoldable pub held : ℕ → Status
held lent = cond (ltb lent 64) (Err refusal.NoRoom) accept

-- ---- Reading

-- 10 where the record is short, else what the reader answers
unfoldable pub read_answer : List ℕ → List ℕ → Answer
read_answer s xs = cond (ltb (length xs) 64) short (answer_of (read_message s))

-- the record of an accepted message is laid; a refusal, and a short record, change nothing
abbrev pub record_of : ReaderAnswer → List ℕ → List ℕ
record_of (Ok m) xs = laid (message_bytes m) xs
record_of (Err r) xs = xs

unfoldable pub read_record : List ℕ → List ℕ → List ℕ
read_record s xs = record_of (read_message s) xs

-- ---- Writing

-- 10 where the record is short, else what the writer answers for the record
unfoldable pub message_written : List ℕ → List ℕ → List ℕ → Written
message_written s xs out = cond (ltb (length xs) 64) (not_written refusal.NoRoom) (written_of (write_answer s (message_in xs) out))

-- the output afterwards
unfoldable pub message_output : List ℕ → List ℕ → List ℕ → List ℕ
message_output s xs out = cond (ltb (length xs) 64) out (output s (message_in xs) out)

-- ---- What a record and the bytes that it was read from say

-- a number of a record, or 10 where its lent bytes are fewer than its layout's
unfoldable pub number_answer : ℕ → ℕ → Number
number_answer lent n = cond (ltb lent 64) (no_number refusal.NoRoom) (record { status = 0; value = n })

abbrev pub port_answer : List ℕ → List ℕ → Number
port_answer s xs = number_answer (length xs) (port_of s (message_in xs))

abbrev pub options_answer : List ℕ → List ℕ → Number
options_answer s xs = number_answer (length xs) (options_of s (message_in xs))

-- whether there is a Source ID, or 10 where the record or the place for the Source ID is short
unfoldable pub source_answer : List ℕ → List ℕ → List ℕ → Yes
source_answer s xs to =
    cond (ltb (length xs) 64) (not_answered refusal.NoRoom)
    (cond (ltb (length to) 16) (not_answered refusal.NoRoom)
    (record { status = 0; yes = (source_of s (message_in xs)).present }))

-- the place for the Source ID afterwards: the Source ID is in its first bytes, if there is one
abbrev pub source_copied : SourceId → List ℕ → List ℕ
source_copied source to = cond source.present (copied source.bytes to) to

unfoldable pub source_lent : List ℕ → List ℕ → List ℕ → List ℕ
source_lent s xs to = cond (ltb (length xs) 64) to (cond (ltb (length to) 16) to (source_copied (source_of s (message_in xs)) to))
