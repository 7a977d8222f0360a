-- The theorems on refused calls: what the record then holds. Assumes nothing.
use Prim.Native.Nat.{ℕ, ◌≤◌}
use mathlib.Core.Path.{◌≡◌, refl, sym, ap, ◌∙◌}
use mathlib.Core.Bool.{Bool, true, false, cond, ◌&&◌}
use mathlib.Core.List.{List}
use native.Mathlib.Omega.{arith}
use borrow.Author.Tests.{ne_eqb}
use lib.Dec.{eqb, leb}
use lib.ListN.{length}
use Rattle.wire.specs.Number.{written}
use Rattle.std.specs.Prelude.{Ok, Err}
use Rattle.wire.specs.Status.{refusal_number}
use Rattle.wire.specs.declared.status.Refusal.{Refusal as Reason}
use Rattle.wire.proofs.Laws.Bool.{both, by_test, not_both}
use Rattle.message_rules.specs.declared.record.Message.{Message}
use Rattle.message_reader.specs.Reading.{Answer as Read, read_message}
use Rattle.message_reader.specs.Theorems.{Fault, Refusal}
use Rattle.message_reader.specs.Theorems as given
use Rattle.message_reader.proofs.Laws.Reading.{refusal_of}
use Rattle.message_rules.specs.Accessors.{source_of, options_of}
use Rattle.session_table.specs.declared.record.Session.{Session}
use Rattle.session_table.specs.declared.record.State.{State}
use Rattle.session_table.specs.declared.record.State.TheVariants as state
use Rattle.session_table.specs.Record.{is_open}
use Rattle.session_step.specs.declared.step.Stepped.{Stepped}
use Rattle.session_step.specs.Step.{Answer, closed, refused}
use Rattle.session_step.specs.Runs.{Event, stepped, answer_to}
use Rattle.session_step.proofs.Laws.Runs.{refusal_keeps}
use Rattle.session_step.specs.Message.{after_read, on_message}
use Rattle.session_layout.specs.SessionLayout.{session_of, same_session, SameAsItself}
use Rattle.session_table.specs.Record.{state_number}
use Rattle.session_layout.proofs.Laws.SessionLayout.{same_as_itself}
use Rattle.session_calls.specs.SessionCalls.{step_result, short_step, answer_of, bytes_left, result_on, source_in, lent_enough, session_step, session_message}
use Rattle.session_calls.specs.SessionCalls.{KeptIfRefused, StepRefusalKeeps, MessageRefusalKeeps}

-- the number of an open state is not that of Closed
open_number : (st : State) → is_open st ≡ true → eqb (state_number st) (state_number state.Closed) ≡ false
open_number state.Waiting o = refl
open_number state.Handshake o = refl
open_number state.PinWait o = refl
open_number state.ReadyWait o = refl
open_number state.Projecting o = refl
open_number state.Closed o = not_both true refl (sym o)

-- a refused step closes an open session, or leaves it
left_refused
    : (s : Session) (r : Reason) (place : ℕ) (xs : List ℕ) (b : Bool) → (b ≡ true → is_open s.state ≡ true)
    → bytes_left s (refused r place (cond b (closed s) s)) xs ≡ cond b (written 1 (state_number state.Closed) 0 xs) xs
unfolding bytes_left same_session SameAsItself
left_refused s r place xs true o = simp (open_number s.state (o refl))
left_refused s r place xs false o = let same : same_session s s ≡ true = same_as_itself s in simp same

-- the reader's refusals are 1 to 8
fault_below : (bytes : List ℕ) (at : ℕ) (m : Message) (r : Reason) → Fault bytes at m r → refusal_number r ≤ 8
fault_below bytes at m r (given.truncated h) = omega arith
fault_below bytes at m r (given.unexpected w q) = omega arith
fault_below bytes at m r (given.length_wrong w q l) = omega arith
fault_below bytes at m r (given.repeated w q l f) = omega arith

refusal_below : (bytes : List ℕ) (r : Reason) (place : ℕ) → Refusal bytes r place → refusal_number r ≤ 8
refusal_below bytes r place (given.before_header h) = omega arith
refusal_below bytes r place (given.before_size a b h) = omega arith
refusal_below bytes r place (given.below_header a h) = omega arith
refusal_below bytes r place (given.left_over b h) = omega arith
refusal_below bytes r place (given.version a b h) = omega arith
refusal_below bytes r place (given.command a b v h) = omega arith
refusal_below bytes r place (given.tlv {m = m} h q a f) = fault_below bytes place m r f
refusal_below bytes r place (given.missing t h q n g) = omega arith

module _ (xs : List ℕ) where
  event_kept : (e : Event) → KeptIfRefused xs (result_on (stepped (session_of xs) e) xs)
  unfolding KeptIfRefused Rattle.session_step.specs.Theorems.RefusalKeeps
  event_kept e = by (answer_to s e) refl
    where
      s : Session
      s = session_of xs

      by : (a : Answer) → answer_to s e ≡ a → KeptIfRefused xs (result_on (stepped s e) xs)
      by (Ok x) q h = absurd (h (ap (λ (a : Answer). (answer_of a).status) q))
      by (Err r) q h =
          let n = refusal_number r.refusal in
          let status : (answer_of (answer_to s e)).status ≡ n = ap (λ (a : Answer). (answer_of a).status) q in
          rw status (
          ap (λ (x : Stepped). bytes_left s x xs) (refusal_keeps s e r q)
          ∙ left_refused s r.refusal 0 xs (eqb n 14 && is_open s.state) (λ o. (both (eqb n 14) (is_open s.state) o).1)
          )

  read_kept : (bytes : List ℕ) (a : Read) → read_message bytes ≡ a → KeptIfRefused xs (result_on (after_read bytes (session_of xs) a) xs)
  unfolding KeptIfRefused
  read_kept bytes (Ok m) e h = event_kept (record { number = m.command; source = source_of bytes m; options = options_of bytes m }) h
  read_kept bytes (Err r) e h =
      let n = refusal_number r.refusal in
      let small = refusal_below bytes r.refusal r.place (refusal_of bytes r.refusal r.place e) in
      let other : eqb n 14 ≡ false = ne_eqb n 14 (λ f. omega arith) in
      simp other (left_refused (session_of xs) r.refusal r.place xs false (λ o. not_both true refl (sym o)))

pub step_refusal_keeps : StepRefusalKeeps
unfolding StepRefusalKeeps session_step KeptIfRefused
step_refusal_keeps xs event source options =
    by_test (KeptIfRefused xs) (lent_enough (length xs) event source) _ (step_result short_step xs)
    (λ e. event_kept xs (record { number = event; source = source_in source; options = options }))
    (λ e h. refl)

pub message_refusal_keeps : MessageRefusalKeeps
unfolding MessageRefusalKeeps session_message on_message KeptIfRefused
message_refusal_keeps xs bytes =
    by_test (KeptIfRefused xs) (leb 19 (length xs)) _ (step_result short_step xs) (λ e. read_kept xs bytes (read_message bytes) refl) (λ e h. refl)
