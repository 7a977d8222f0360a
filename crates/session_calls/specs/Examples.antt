-- Small examples of the session's calls. Each is computed. Assumes nothing.
use Rattle.std.specs.Prelude.{ℕ, ◌≡◌, refl, Bool, true, false, List, [], ◌∷◌, replicate}
use Rattle.std.proofs.Common.{arith}
use Rattle.wire.specs.Below.{all_below}
use Rattle.wire.specs.Checks.{first_of}
use Rattle.wire.specs.Laid.{laid}
use Rattle.wire.specs.LittleEndian.{number_at}
use Rattle.wire.specs.Number.{number_in, bytes_in, written_in}
use Rattle.wire.specs.Splice.{splice}
use Rattle.scan.specs.Bytes.{copied}
use Rattle.message_rules.specs.Rules.{roles_of, role_of, lengths_of, length_in, length_ok, known_command}
use Rattle.message_rules.specs.Record.{field_of, with_field, empty_of}
use Rattle.message_rules.specs.Accessors.{source_of, options_of}
use Rattle.message_reader.specs.Reading.{header_status, tlv_at, has_needed, is_complete, last_of, tlvs_from, read_message}
use Rattle.session_table.specs.Source.{carried, other_source, same_bytes}
use Rattle.session_table.specs.Table.{is_event}
use Rattle.session_step.specs.Step.{source_after, accepted, step_of}
use Rattle.session_step.specs.Message.{on_message}
use Rattle.session_layout.specs.SessionLayout.{id_at, session_bytes, session_of, same_session}
use Rattle.session_table.specs.Record.{state_of}
use Rattle.host_answers.specs.declared.Step.{Step}
use Rattle.session_calls.specs.SessionCalls.{step_result, bytes_left, source_in, lent_enough, session_step, session_message}

-- a record of a state, options, flag and 16 bytes 05, and one byte more
abbrev pub record_of : ℕ → ℕ → List ℕ
record_of state flag = state ∷ 3 ∷ flag ∷ 5 ∷ 5 ∷ 5 ∷ 5 ∷ 5 ∷ 5 ∷ 5 ∷ 5 ∷ 5 ∷ 5 ∷ 5 ∷ 5 ∷ 5 ∷ 5 ∷ 5 ∷ 5 ∷ 99 ∷ []

-- an answer without a place
abbrev pub answer : ℕ → Bool → Step
answer status check = record { status = status; check = check; place = 0 }

-- Connection lost (10) in Projecting closes with five bytes of Source ID too; where the session changes, a flag of 7 becomes 1.
pub lost_with_five_bytes : session_step (record_of 4 7) 10 (replicate 5 8) 0 ≡ step_result (answer 0 false) (record_of 5 1)
unfolding session_step lent_enough known_command bytes_left same_session same_bytes all_below source_in step_of is_event other_source carried accepted
    source_after session_of state_of number_at number_in id_at copied splice laid session_bytes bytes_in
lost_with_five_bytes = refl

-- A number that is no event is 4, with five bytes too; with a short record it is 10.
pub no_event_with_five_bytes
    : (session_step (record_of 4 7) 11 (replicate 5 8) 0 ≡ step_result (answer 4 false) (record_of 4 7))
    × (session_step (replicate 18 0) 11 (replicate 5 8) 0 ≡ step_result (answer 10 false) (replicate 18 0))
unfolding session_step lent_enough known_command bytes_left same_session same_bytes all_below source_in step_of is_event other_source carried session_of
    state_of number_at number_in id_at copied splice
no_event_with_five_bytes = (refl, refl)

-- With a message five bytes are 10.
pub message_with_five_bytes : session_step (record_of 4 7) 2 (replicate 5 8) 0 ≡ step_result (answer 10 false) (record_of 4 7)
unfolding session_step lent_enough known_command
message_with_five_bytes = refl

-- PIN Challenge (5) in PinWait is accepted and changes nothing: the flag of 7 stays.
pub challenge_keeps : session_step (record_of 2 7) 5 (replicate 16 5) 0 ≡ step_result (answer 0 true) (record_of 2 7)
unfolding session_step lent_enough known_command bytes_left same_session same_bytes all_below source_in step_of is_event other_source carried accepted
    source_after session_of state_of number_at number_in id_at copied splice
challenge_keeps = refl

-- The premises of the theorems are met. Beside them stands what the theorem then says, computed: of the bytes what `KeptIfRefused` asks.
-- (`SourceStays` is no theorem: it holds of every step, by proofs/Laws/SessionCalls.antt.)

-- LentSourceUnseen: connection lost beside five bytes and beside none
pub lent_source_unseen_met
    : (known_command 10 ≡ false) × (session_step (record_of 4 7) 10 (replicate 5 8) 0 ≡ session_step (record_of 4 7) 10 [] 0)
unfolding session_step lent_enough known_command source_in
lent_source_unseen_met = (refl, refl)

fourteen : ◌≡◌ {A = ℕ} 14 0 → ⊥
fourteen e = omega arith

fifteen : ◌≡◌ {A = ℕ} 15 0 → ⊥
fifteen e = omega arith

one : ◌≡◌ {A = ℕ} 1 0 → ⊥
one e = omega arith

-- StepRefusalKeeps: Source Ready (1) in Projecting is 14 and writes Closed to the state alone; Stop Projection (2) of another source is 15 and
-- writes nothing
pub step_refusal_keeps_met
    : ((session_step (record_of 4 7) 1 (replicate 16 5) 0).answer.status ≡ 0 → ⊥)
    × (session_step (record_of 4 7) 1 (replicate 16 5) 0 ≡ step_result (answer 14 false) (record_of 5 7))
    × ((session_step (record_of 4 7) 2 (replicate 16 8) 0).answer.status ≡ 0 → ⊥)
    × (session_step (record_of 4 7) 2 (replicate 16 8) 0 ≡ step_result (answer 15 false) (record_of 4 7))
unfolding session_step lent_enough known_command bytes_left same_session same_bytes all_below source_in step_of is_event other_source carried session_of
    state_of number_at number_in id_at copied splice written_in bytes_in
step_refusal_keeps_met = (fourteen, refl, fifteen, refl)

-- a Security Handshake with a token of one byte
abbrev pub handshake : List ℕ
handshake = 0 ∷ 8 ∷ 1 ∷ 3 ∷ 4 ∷ 0 ∷ 1 ∷ 42 ∷ []

-- MessageRefusalKeeps: in Projecting it is 14; no bytes are 1
pub message_refusal_keeps_met
    : ((session_message (record_of 4 7) handshake).answer.status ≡ 0 → ⊥)
    × (session_message (record_of 4 7) handshake ≡ step_result (answer 14 false) (record_of 5 7))
    × ((session_message (record_of 4 7) []).answer.status ≡ 0 → ⊥)
    × (session_message (record_of 4 7) [] ≡ step_result (answer 1 false) (record_of 4 7))
unfolding session_message on_message bytes_left same_session same_bytes all_below step_of is_event other_source carried session_of state_of
    number_at number_in id_at copied splice written_in bytes_in roles_of role_of lengths_of length_in length_ok known_command field_of with_field empty_of
    source_of options_of header_status tlv_at has_needed is_complete last_of tlvs_from read_message first_of
message_refusal_keeps_met = (fourteen, refl, one, refl)
