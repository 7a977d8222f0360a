-- What the calls answer. Assumes nothing.
use Rattle.std.specs.Prelude.{ℕ, Bool, false, Result, Ok, Err}
use Rattle.wire.specs.declared.status.Refusal.{Refusal}
use Rattle.wire.specs.declared.status.Refusal.TheVariants as refusal
use Rattle.wire.specs.declared.status.Refused.{Refused}
use Rattle.wire.specs.Status.{refusal_number, refused_at}
use Rattle.wire.specs.Numbered.{Numbered, accepted_as, refused_as, numbered}
use Rattle.host_answers.specs.declared.Answer.{Answer}
use Rattle.host_answers.specs.declared.Number.{Number}
use Rattle.host_answers.specs.declared.Step.{Step}
use Rattle.host_answers.specs.declared.Written.{Written}
use Rattle.host_answers.specs.declared.Yes.{Yes}

-- the paper's number of an answer, and the place of a refusal
abbrev pub answer_as : Numbered → Answer
answer_as n = record { status = n.number; place = n.place }

abbrev pub accepted : Answer
accepted = answer_as accepted_as

abbrev pub refused : Refusal → ℕ → Answer
refused r place = answer_as (refused_as (refused_at r place))

-- a lent record is shorter than its layout
abbrev pub short : Answer
short = refused refusal.NoRoom 0

-- of a reader: as the theorems on refusals number it
abbrev pub answer_of : {A : Type 0} → Result A Refused → Answer
answer_of a = answer_as (numbered a)

-- of a writer that refuses
abbrev pub not_written : Refusal → Written
not_written r = record { status = refusal_number r; size = 0 }

-- of a writer: the paper's number of its answer, and how many bytes it wrote, none where it refused
abbrev pub size_of : Result ℕ Refused → ℕ
size_of (Ok n) = n
size_of (Err r) = 0

abbrev pub written_of : Result ℕ Refused → Written
written_of a = record { status = (numbered a).number; size = size_of a }

-- of a number that is asked for: 0 where there is none
abbrev pub no_number : Refusal → Number
no_number r = record { status = refusal_number r; value = 0 }

abbrev pub value_of : Result ℕ Refused → Number
value_of (Ok n) = record { status = 0; value = n }
value_of (Err r) = no_number (r.refusal)

-- of a step, which has the host check the PIN or not
abbrev pub step_as : Result Bool Refused → Step
step_as (Ok b) = record { status = 0; check = b; place = 0 }
step_as (Err r) = record { status = refusal_number (r.refusal); check = false; place = r.place }

-- of a question that is refused: no
abbrev pub not_answered : Refusal → Yes
not_answered r = record { status = refusal_number r; yes = false }

-- of a question: the paper's number of its answer, and yes or no, no where it is refused
abbrev pub is_yes : Result Bool Refused → Bool
is_yes (Ok b) = b
is_yes (Err r) = false

abbrev pub yes_of : Result Bool Refused → Yes
yes_of a = record { status = (numbered a).number; yes = is_yes a }
