-- What the calls of the cursor limits value answer, and what the lent bytes then hold: by the definitions of the value (crate cursor_limits) and of
-- its record as bytes (crate limits_layout). s are the bytes of a text, xs those of a record. Assumes nothing.
use Rattle.std.specs.Prelude.{ℕ, List, cond, ltb, length, Result, Ok, Err}
use Rattle.wire.specs.declared.status.Refusal.TheVariants as refusal
use Rattle.wire.specs.declared.status.Refused.{Refused}
use Rattle.cursor_limits.specs.declared.value.Value.{Value}
use Rattle.cursor_limits.specs.Reading.{read_value}
use Rattle.wire.specs.Laid.{laid}
use Rattle.cursor_limits.specs.Writing.{spelling, write_answer}
use Rattle.limits_layout.specs.LimitsLayout.{limits_bytes, limits_in}
use Rattle.host_answers.specs.declared.Answer.{Answer}
use Rattle.host_answers.specs.declared.Written.{Written}
use Rattle.host_answers.specs.Answers.{answer_of, short, not_written, written_of}

-- ---- Reading

-- 10 where the record is short, else what the reader answers
unfoldable pub read_answer : List ℕ → List ℕ → Answer
read_answer s xs = cond (ltb (length xs) 8) short (answer_of (read_value s))

-- the record of an accepted value is laid; a refusal, and a short record, change nothing
abbrev pub record_of : Result Value Refused → List ℕ → List ℕ
record_of (Ok v) xs = laid (limits_bytes v) xs
record_of (Err r) xs = xs

unfoldable pub read_record : List ℕ → List ℕ → List ℕ
read_record s xs = record_of (read_value s) xs

-- ---- Writing

-- 10 where the record is short, else what the writer answers for the record
unfoldable pub limits_written : List ℕ → List ℕ → Written
limits_written xs out = cond (ltb (length xs) 8) (not_written refusal.NoRoom) (written_of (write_answer (limits_in xs) (length out)))

-- the output afterwards
unfoldable pub limits_output : List ℕ → List ℕ → List ℕ
limits_output xs out = cond (ltb (length xs) 8) out (laid (spelling (limits_in xs)) out)
