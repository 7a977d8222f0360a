-- The calls of the session: what each answers, and what the lent record then holds. Assumes nothing.
use Rattle.std.specs.Prelude.{ℕ, ◌≡◌, Bool, true, false, not, cond, ◌&&◌, ◌||◌, List, eqb, leb, length, is_ok, Ok, Err}
use Rattle.message_rules.specs.Rules.{known_command}
use Rattle.wire.specs.declared.status.Refusal.TheVariants as refusal
use Rattle.wire.specs.Status.{refusal_number}
use Rattle.wire.specs.Number.{written}
use Rattle.message_rules.specs.declared.accessors.SourceId.{SourceId}
use Rattle.message_rules.specs.Accessors.{no_source}
use Rattle.session_table.specs.declared.record.State.TheVariants as state
use Rattle.session_table.specs.declared.record.Session.{Session}
use Rattle.session_table.specs.Record.{is_open}
use Rattle.session_step.specs.declared.step.Stepped.{Stepped}
use Rattle.session_step.specs.Step.{Answer, step_of}
use Rattle.session_step.specs.Message.{on_message}
use Rattle.wire.specs.Laid.{laid}
use Rattle.session_layout.specs.SessionLayout.{source_at, session_bytes, session_of, same_session}
use Rattle.session_table.specs.Record.{state_number}
use Rattle.host_answers.specs.declared.Step.{Step}

-- an answer, with what the lent record then holds
pub record StepResult : Type 0 where
  pub answer : Step
  pub bytes : List ℕ

abbrev pub step_result : Step → List ℕ → StepResult
step_result r xs = record { answer = r; bytes = xs }

-- a lent slice is too short: 10, and nothing changes
abbrev pub short_step : Step
short_step = record { status = refusal_number refusal.NoRoom; check = false; place = 0 }

-- a step's answer by the paper's number
abbrev pub answer_of : Answer → Step
answer_of (Ok a) = record { status = 0; check = a.check; place = 0 }
answer_of (Err r) = record { status = refusal_number r.refusal; check = false; place = r.place }

-- Where it stays whether a Source ID is kept, so do its bytes: this holds of a session and what a step makes of it, since a step keeps a first
-- Source ID and no later one.
abbrev pub SourceStays : Session → Session → Type 0
SourceStays before after = before.source.present ≡ after.source.present → before.source ≡ after.source

-- What a step leaves in the record xs, which held the session `before`. Where the session afterwards is the same, each byte stays. Else an
-- accepted step writes the session afterwards, and a refused one its state alone ("Every refusal changes nothing, except 14 in an open
-- session, which closes it"; "Closing changes the state's name only").
unfoldable pub bytes_left : Session → Stepped → List ℕ → List ℕ
bytes_left before s xs =
    cond (same_session before s.session) xs
    (cond (is_ok s.answer) (laid (session_bytes s.session) xs) (written 1 (state_number s.session.state) 0 xs))

abbrev pub result_of : Session → Stepped → List ℕ → StepResult
result_of before s xs = step_result (answer_of s.answer) (bytes_left before s xs)

-- on the session in the record
abbrev pub result_on : Stepped → List ℕ → StepResult
result_on s xs = result_of (session_of xs) s xs

-- a lent Source ID: the first 16 bytes; fewer are none
unfoldable pub source_in : List ℕ → SourceId
source_in xs = cond (leb 16 (length xs)) (source_at true 0 xs) no_source

-- The record has its 19 bytes; and the lent Source ID is none, or has its 16, or is not looked at, since the event is no message. So 4 for a
-- number that is no event comes before the 10 for a Source ID of 1 to 15 bytes, and the 10 for a short record before both.
unfoldable pub lent_enough : ℕ → ℕ → List ℕ → Bool
lent_enough lent event source = leb 19 lent && (eqb (length source) 0 || (leb 16 (length source) || not (known_command event)))

-- a step with an event, on the session in the record xs
unfoldable pub session_step : List ℕ → ℕ → List ℕ → ℕ → StepResult
session_step xs event source options =
    cond (lent_enough (length xs) event source) (result_on (step_of (session_of xs) event (source_in source) options) xs) (step_result short_step xs)

-- a step with the message in `bytes`
unfoldable pub session_message : List ℕ → List ℕ → StepResult
session_message xs bytes = cond (leb 19 (length xs)) (result_on (on_message (session_of xs) bytes) xs) (step_result short_step xs)

-- "A step looks at a Source ID only with a message": with any other event, and with a number that is no event, whatever is lent does the same.
-- The proof stands in proofs/Laws/SessionCalls.antt.
unfoldable pub LentSourceUnseen : Type 0
LentSourceUnseen =
    (xs : List ℕ) (event : ℕ) (a b : List ℕ) (options : ℕ) → known_command event ≡ false
    → session_step xs event a options ≡ session_step xs event b options

-- What every refused call leaves ("Every refusal changes nothing, except 14 in an open session, which closes it"; "Closing changes the
-- state's name only"). The proofs stand in proofs/Laws/Refusals.antt.

-- each byte of the record xs, but that 14 in an open session writes Closed to the byte of the state
unfoldable pub KeptIfRefused : List ℕ → StepResult → Type 0
KeptIfRefused xs r =
    (r.answer.status ≡ 0 → ⊥)
    → r.bytes ≡ cond (eqb r.answer.status 14 && is_open (session_of xs).state) (written 1 (state_number state.Closed) 0 xs) xs

unfoldable pub StepRefusalKeeps : Type 0
StepRefusalKeeps = (xs : List ℕ) (event : ℕ) (source : List ℕ) (options : ℕ) → KeptIfRefused xs (session_step xs event source options)

unfoldable pub MessageRefusalKeeps : Type 0
MessageRefusalKeeps = (xs bytes : List ℕ) → KeptIfRefused xs (session_message xs bytes)
