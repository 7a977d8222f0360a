-- Small examples of the session's steps, P12 of 01 among them. Each is computed. Assumes nothing.
use Rattle.std.specs.Prelude.{ℕ, ◌≡◌, refl, List, [], ◌∷◌, true, false, replicate, Ok, Err}
use Rattle.std.proofs.Common.{arith}
use Rattle.message_rules.specs.Rules.{known_command}
use Rattle.wire.specs.Below.{all_below}
use Rattle.wire.specs.declared.status.Refusal.TheVariants as refusal
use Rattle.wire.specs.Status.{refused_at}
use Rattle.message_rules.specs.declared.accessors.SourceId.{SourceId}
use Rattle.session_table.specs.declared.record.State.{State}
use Rattle.session_table.specs.declared.record.State.TheVariants as state
use Rattle.message_rules.specs.Accessors.{no_source}
use Rattle.session_table.specs.declared.record.Session.{Session}
use Rattle.session_table.specs.Record.{fresh_session}
use Rattle.session_table.specs.Source.{carried, other_source, same_bytes}
use Rattle.session_table.specs.Table.{is_event}
use Rattle.session_step.specs.Step.{wants_pin, pin_or_ready, options_from, source_after, accepted, refused, closed, stepped_to, step_of}
use Rattle.session_step.specs.Runs.{Event, stepped, next, run, answer_to, is_accepted, pin_right}

-- P12: Waiting, Stop Projection: Closed, accepted
pub p12
    : step_of fresh_session 2 no_source 0
    ≡ stepped_to (Ok (record { check = false })) (record { state = state.Closed; options = 0; source = no_source })
unfolding step_of is_event other_source carried accepted source_after options_from
p12 = refl

-- a number that is no event is 4, in Closed too
pub no_event
    : step_of (record { state = state.Closed; options = 0; source = no_source }) 11 no_source 0
    ≡ refused refusal.UnknownKind 0 (record { state = state.Closed; options = 0; source = no_source })
unfolding step_of is_event other_source
no_event = refl

abbrev pub sender : SourceId
sender = record { present = true; bytes = replicate 16 7 }

-- a session with a PIN: Session Request with options 3, handshake done, PIN Challenge, PIN right, Source Ready
abbrev pub with_pin : List Event
with_pin =
    record { number = 4; source = sender; options = 3 } ∷
    record { number = 7; source = no_source; options = 0 } ∷
    record { number = 5; source = sender; options = 0 } ∷
    record { number = 8; source = no_source; options = 0 } ∷
    record { number = 1; source = sender; options = 0 } ∷ []

pub projects : run fresh_session with_pin ≡ record { state = state.Projecting; options = 3; source = sender }
unfolding run step_of is_event other_source known_command carried same_bytes all_below accepted source_after options_from pin_or_ready wants_pin
projects = refl

-- The premises of the theorems are met. Beside them stands what the theorem then says, computed.
-- Without a premise: FirstIsKept.

abbrev pub stranger : SourceId
stranger = record { present = true; bytes = replicate 16 8 }

-- the session in a state, after a Session Request of the sender with options 3
abbrev pub session_in : State → Session
session_in st = record { state = st; options = 3; source = sender }

-- Source Ready of the sender, and Stop Projection of another source
abbrev pub ready : Event
ready = record { number = 1; source = sender; options = 0 }

abbrev pub strange_stop : Event
strange_stop = record { number = 2; source = stranger; options = 0 }

-- ClosedRefuses: Source Ready in Closed
pub closed_refuses_met
    : ((session_in state.Closed).state ≡ state.Closed)
    × (is_event ready.number ≡ true)
    × (stepped (session_in state.Closed) ready ≡ refused refusal.UnexpectedEvent 0 (session_in state.Closed))
unfolding step_of is_event other_source
closed_refuses_met = (refl, refl, refl)

-- ClosedForGood: five events in Closed
pub closed_for_good_met : ((session_in state.Closed).state ≡ state.Closed) × (run (session_in state.Closed) with_pin ≡ session_in state.Closed)
unfolding run step_of is_event other_source
closed_for_good_met = (refl, refl)

-- RefusalKeeps: Source Ready in PinWait is 14 and closes; Stop Projection of another source is 15 there and changes nothing
pub refusal_keeps_met
    : (answer_to (session_in state.PinWait) ready ≡ Err (refused_at refusal.UnexpectedEvent 0))
    × (stepped (session_in state.PinWait) ready ≡ refused refusal.UnexpectedEvent 0 (closed (session_in state.PinWait)))
    × (answer_to (session_in state.PinWait) strange_stop ≡ Err (refused_at refusal.OtherSource 0))
    × (stepped (session_in state.PinWait) strange_stop ≡ refused refusal.OtherSource 0 (session_in state.PinWait))
unfolding step_of is_event other_source known_command carried same_bytes all_below
refusal_keeps_met = (refl, refl, refl, refl)

-- KeptForGood: the sender's Source ID after six events, the first of another source
pub kept_for_good_met
    : ((session_in state.Handshake).source.present ≡ true)
    × ((run (session_in state.Handshake) (strange_stop ∷ with_pin)).source ≡ sender)
unfolding run step_of is_event other_source known_command carried same_bytes all_below
kept_for_good_met = (refl, refl)

-- OtherChangesNothing: Stop Projection of another source, 15 in Projecting and 14 in Closed
pub other_changes_nothing_met
    : (sender.present ≡ true)
    × (carried strange_stop.number stranger ≡ true)
    × (same_bytes sender.bytes stranger.bytes ≡ false)
    × (stepped (session_in state.Projecting) strange_stop ≡ refused refusal.OtherSource 0 (session_in state.Projecting))
    × (stepped (session_in state.Closed) strange_stop ≡ refused refusal.UnexpectedEvent 0 (session_in state.Closed))
unfolding step_of is_event other_source known_command carried same_bytes all_below
other_changes_nothing_met = (refl, refl, refl, refl, refl)

-- SourceUnseen: handshake done, beside the Source ID of another source and beside none
pub source_unseen_met
    : (known_command 7 ≡ false) × (step_of (session_in state.Handshake) 7 stranger 0 ≡ step_of (session_in state.Handshake) 7 no_source 0)
unfolding step_of is_event other_source known_command carried accepted source_after
source_unseen_met = (refl, refl)

-- OptionsUnseen: Source Ready in Waiting, beside options 3 and 0
pub options_unseen_met : (◌≡◌ {A = ℕ} 1 4 → ⊥) × (step_of fresh_session 1 sender 3 ≡ step_of fresh_session 1 sender 0)
unfolding step_of is_event other_source known_command carried accepted source_after options_from
options_unseen_met = (λ e. omega arith, refl)

-- ReachedByReady: Source Ready in ReadyWait
pub reached_by_ready_met
    : ((next (session_in state.ReadyWait) ready).state ≡ state.Projecting) × (is_accepted (session_in state.ReadyWait) ready ≡ true)
unfolding step_of is_event other_source known_command carried same_bytes all_below accepted
reached_by_ready_met = (refl, refl)

-- PinBeforeProjecting: the session with a PIN
pub pin_before_projecting_met
    : ((run fresh_session with_pin).state ≡ state.Projecting)
    × (wants_pin (run fresh_session with_pin).options ≡ true)
    × (pin_right fresh_session with_pin ≡ true)
unfolding run pin_right step_of is_event other_source known_command carried same_bytes all_below accepted source_after options_from pin_or_ready wants_pin
pin_before_projecting_met = (refl, refl, refl)
