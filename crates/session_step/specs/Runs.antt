-- Lists of events, as a host gives them to a session one after the other. Assumes nothing.
use Rattle.std.specs.Prelude.{ℕ, List, [], ◌∷◌, Bool, false, cond, ◌&&◌, ◌||◌, eqb, is_ok}
use Rattle.message_rules.specs.declared.accessors.SourceId.{SourceId}
use Rattle.session_table.specs.declared.record.Session.{Session}
use Rattle.message_rules.specs.Accessors.{no_source}
use Rattle.session_table.specs.Source.{carried}
use Rattle.session_step.specs.declared.step.Stepped.{Stepped}
use Rattle.session_step.specs.Step.{Answer, step_of}

-- what comes with an event: its number, a Source ID, which may be absent, and the option byte
pub record Event : Type 0 where
  pub number : ℕ
  pub source : SourceId
  pub options : ℕ

abbrev pub stepped : Session → Event → Stepped
stepped s e = step_of s e.number e.source e.options

-- the session after one event, and after a list of them
abbrev pub next : Session → Event → Session
next s e = (stepped s e).session

unfoldable pub run : Session → List Event → Session
run s [] = s
run s (e ∷ l) = run (next s e) l

-- what it is answered with, and whether it is accepted
abbrev pub answer_to : Session → Event → Answer
answer_to s e = (stepped s e).answer

abbrev pub is_accepted : Session → Event → Bool
is_accepted s e = is_ok (answer_to s e)

-- the first Source ID that an accepted event carries, if one does
unfoldable pub first_source : Session → List Event → SourceId
first_source s [] = no_source
first_source s (e ∷ l) = cond (is_accepted s e && carried e.number e.source) e.source (first_source (next s e) l)

-- whether PIN right (8) is among the accepted events
unfoldable pub pin_right : Session → List Event → Bool
pin_right s [] = false
pin_right s (e ∷ l) = (eqb e.number 8 && is_accepted s e) || pin_right (next s e) l
