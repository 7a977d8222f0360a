-- One step of the session (01, "Sink session"). Assumes nothing.
use Rattle.std.specs.Prelude.{ℕ, ◌/◌, ◌%◌, Bool, true, false, not, cond, eqb, Result, Ok, Err}
use Rattle.wire.specs.declared.status.Refusal.{Refusal}
use Rattle.wire.specs.declared.status.Refusal.TheVariants as refusal
use Rattle.wire.specs.declared.status.Refused.{Refused}
use Rattle.wire.specs.Status.{refused_at}
use Rattle.message_rules.specs.declared.accessors.SourceId.{SourceId}
use Rattle.session_table.specs.declared.record.State.{State}
use Rattle.session_table.specs.declared.record.State.TheVariants as state
use Rattle.session_table.specs.declared.record.Session.{Session}
use Rattle.session_table.specs.declared.table.Next.{Next}
use Rattle.session_table.specs.declared.table.Next.TheVariants.{NoEvent, Unexpected, CheckPin, PinOrReady, To}
use Rattle.session_table.specs.Source.{carried, other_source}
use Rattle.session_table.specs.Table.{is_event, table}
use Rattle.session_step.specs.declared.step.Accepted.{Accepted}
use Rattle.session_step.specs.declared.step.Stepped.{Stepped}

-- what a step answers: whether the host shall check the PIN, or the refusal and its place
abbrev pub Answer : Type 0
Answer = Result Accepted Refused

-- the PIN option: bit 02 hex of the option byte (001 section 2.2.7.5, SinkDisplaysPin)
unfoldable pub wants_pin : ℕ → Bool
wants_pin options = eqb (options / 2 % 2) 1

-- handshake done goes to PinWait if the PIN option is set, else to ReadyWait
unfoldable pub pin_or_ready : ℕ → State
pin_or_ready options = cond (wants_pin options) state.PinWait state.ReadyWait

-- in Waiting a Session Request (4) keeps its options, and a Security Handshake (3) sets 0; options are looked at nowhere else
unfoldable pub options_from : ℕ → ℕ → ℕ → ℕ
options_from event kept options = cond (eqb event 3) 0 (cond (eqb event 4) options kept)

abbrev pub options_after : State → ℕ → ℕ → ℕ → ℕ
options_after state.Waiting event kept options = options_from event kept options
options_after state.Handshake event kept options = kept
options_after state.PinWait event kept options = kept
options_after state.ReadyWait event kept options = kept
options_after state.Projecting event kept options = kept
options_after state.Closed event kept options = kept

-- the first Source ID carried by an accepted event is kept
unfoldable pub source_after : SourceId → ℕ → SourceId → SourceId
source_after kept event source = cond kept.present kept (cond (carried event source) source kept)

-- an accepted event that leads to a state
unfoldable pub accepted : Session → State → Bool → ℕ → SourceId → ℕ → Stepped
accepted s to check event source options =
    record {
      answer = Ok (record { check = check });
      session =
          record {
            state = to;
            options = options_after s.state event s.options options;
            source = source_after s.source event source;
          };
    }

abbrev pub refused : Refusal → ℕ → Session → Stepped
refused r place s = record { answer = Err (refused_at r place); session = s }

-- closing changes the state's name only
abbrev pub closed : Session → Session
closed s = record { state = state.Closed; options = s.options; source = s.source }

-- what the table says is done; everything that it doesn't have is 14 and goes to Closed
abbrev pub follow : Next → Session → ℕ → SourceId → ℕ → Stepped
follow NoEvent s event source options = refused refusal.UnknownKind 0 s
follow Unexpected s event source options = refused refusal.UnexpectedEvent 0 (closed s)
follow CheckPin s event source options = accepted s s.state true event source options
follow PinOrReady s event source options = accepted s (pin_or_ready s.options) false event source options
follow (To state) s event source options = accepted s state false event source options

-- 4 first, in any state; then 15; then the table
unfoldable pub step_of : Session → ℕ → SourceId → ℕ → Stepped
step_of s event source options =
    cond (not (is_event event)) (refused refusal.UnknownKind 0 s)
    (cond (other_source s event source) (refused refusal.OtherSource 0 s)
    (follow (table s.state event) s event source options))

-- an answer and the session that it leaves
abbrev pub stepped_to : Answer → Session → Stepped
stepped_to a s = record { answer = a; session = s }
