-- What holds of the session's steps and of any list of events. The proofs stand in proofs/Laws, in Runs.antt and, of what a step doesn't look
-- at, Unseen.antt. Assumes nothing.
use Rattle.std.specs.Prelude.{ℕ, ◌≡◌, List, ◌⊎◌, true, false, cond, ◌&&◌, eqb, Err}
use Rattle.message_rules.specs.Rules.{known_command}
use Rattle.wire.specs.Status.{refusal_number}
use Rattle.wire.specs.declared.status.Refusal.TheVariants as refusal
use Rattle.wire.specs.declared.status.Refused.{Refused}
use Rattle.message_rules.specs.declared.accessors.SourceId.{SourceId}
use Rattle.session_table.specs.declared.record.State.TheVariants as state
use Rattle.session_table.specs.declared.record.Session.{Session}
use Rattle.session_table.specs.Record.{fresh_session, is_open}
use Rattle.session_table.specs.Source.{carried, same_bytes}
use Rattle.session_table.specs.Table.{is_event}
use Rattle.session_step.specs.Step.{wants_pin, closed, refused, step_of}
use Rattle.session_step.specs.Runs.{Event, stepped, next, run, answer_to, is_accepted, first_source, pin_right}

-- "In Closed every event is 14 and nothing changes": and so after any list of events
unfoldable pub ClosedRefuses : Type 0
ClosedRefuses =
    (s : Session) (e : Event) → s.state ≡ state.Closed → is_event e.number ≡ true → stepped s e ≡ refused refusal.UnexpectedEvent 0 s

unfoldable pub ClosedForGood : Type 0
ClosedForGood = (s : Session) (l : List Event) → s.state ≡ state.Closed → run s l ≡ s

-- "Every refusal changes nothing, except 14 in an open session, which closes it"; "Closing changes the state's name only"
unfoldable pub RefusalKeeps : Type 0
RefusalKeeps =
    (s : Session) (e : Event) (r : Refused) → answer_to s e ≡ Err r
    → stepped s e ≡ refused r.refusal 0 (cond (eqb (refusal_number r.refusal) 14 && is_open s.state) (closed s) s)

-- "The first Source ID carried by an accepted event is kept": over any list of events from a fresh session
unfoldable pub FirstIsKept : Type 0
FirstIsKept = (l : List Event) → (run fresh_session l).source ≡ first_source fresh_session l

-- and never changes
unfoldable pub KeptForGood : Type 0
KeptForGood = (s : Session) (l : List Event) → s.source.present ≡ true → (run s l).source ≡ s.source

-- "In an open state a message carrying a different one is 15": in Closed it is 14, and in no state does it change anything
unfoldable pub OtherChangesNothing : Type 0
OtherChangesNothing =
    (s : Session) (e : Event) → s.source.present ≡ true → carried e.number e.source ≡ true
    → same_bytes s.source.bytes e.source.bytes ≡ false
    → (stepped s e ≡ refused (cond (is_open s.state) refusal.OtherSource refusal.UnexpectedEvent) 0 s) × (next s e ≡ s)

-- "A step looks at a Source ID only with a message, at options only with a Session Request" (4)
unfoldable pub SourceUnseen : Type 0
SourceUnseen =
    (s : Session) (event : ℕ) (x y : SourceId) (options : ℕ) → known_command event ≡ false → step_of s event x options ≡ step_of s event y options

unfoldable pub OptionsUnseen : Type 0
OptionsUnseen = (s : Session) (event : ℕ) (x : SourceId) (a b : ℕ) → (event ≡ 4 → ⊥) → step_of s event x a ≡ step_of s event x b

-- Projecting is reached only by an accepted Source Ready (1)
unfoldable pub ReachedByReady : Type 0
ReachedByReady =
    (s : Session) (e : Event) → (next s e).state ≡ state.Projecting
    → (s.state ≡ state.Projecting) ⊎ ((e.number ≡ 1) × (is_accepted s e ≡ true))

-- where the kept options ask for a PIN, Projecting is reached only after PIN right
unfoldable pub PinBeforeProjecting : Type 0
PinBeforeProjecting =
    (l : List Event) → (run fresh_session l).state ≡ state.Projecting → wants_pin (run fresh_session l).options ≡ true
    → pin_right fresh_session l ≡ true
