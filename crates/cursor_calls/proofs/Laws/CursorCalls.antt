-- The calls of the cursor stream by their outcomes. Assumes nothing.
use Prim.Native.Nat.{ℕ}
use mathlib.Core.Path.{◌≡◌, refl, ap, ◌∙◌}
use mathlib.Core.Bool.{Bool, true, false, cond}
use mathlib.Core.List.{List}
use lib.Dec.{leb}
use lib.ListN.{length}
use Rattle.std.specs.Prelude.{Result, Ok, Err}
use Rattle.wire.specs.declared.status.Refused.{Refused}
use Rattle.wire.specs.Numbered.{Numbered, numbered}
use Rattle.wire.specs.Status.{Status, number_of}
use Rattle.wire.proofs.Laws.Bool.{by_test}
use Rattle.cursor_pointer.specs.declared.Pointer.{Pointer}
use Rattle.cursor_pointer.specs.Pointer.{positioned, position_status}
use Rattle.cursor_pointer.proofs.Laws.Pointer.{number_by_checks as position-by-checks}
use Rattle.cursor_store.specs.declared.storing.Stored.{Stored}
use Rattle.cursor_store.specs.Assembling.{Outcome, store_status}
use Rattle.cursor_store.specs.Storing.{stored}
use Rattle.cursor_store.specs.Calls.{State}
use Rattle.cursor_store.proofs.Laws.Calls.{number_by_checks as store-by-checks}
use Rattle.cursor_store.proofs.Laws.Storing.{stored_as, stored_is}
use Rattle.cursor_layout.specs.PointerLayout.{pointer_length, pointer_of}
use Rattle.cursor_layout.specs.PictureLayout.{picture_of}
use Rattle.host_answers.specs.Answers.{answer_of, short}
use Rattle.cursor_calls.specs.CursorCalls.{PositionOutcome, after_position, position_answered, cursor_position, records_whole, StoreOutcome, after_store, store_answered, all_answered, cursor_store, PositionRefusalKeeps, StoreRefusalKeeps}

-- The number of each answer: 10 for a short record, else that of the checks.

answer_number : {A : Type 0} (a : Result A Refused) → (answer_of a).status ≡ (numbered a).number
answer_number (Ok x) = refl
answer_number (Err r) = refl

pub position_number
    : (ps packet : List ℕ)
    → (cursor_position ps packet).answer.status ≡ cond (leb pointer_length (length ps)) (number_of (position_status (pointer_of ps) packet)) 10
unfolding cursor_position
position_number ps packet = go (leb pointer_length (length ps))
  where
    go : (b : Bool) → (cond b (position_answered (positioned (pointer_of ps) packet) ps) (after_position short ps)).answer.status
        ≡ cond b (number_of (position_status (pointer_of ps) packet)) 10
    go true = answer_number (positioned (pointer_of ps) packet) ∙ ap (λ (n : Numbered). n.number) (position-by-checks (pointer_of ps) packet)
    go false = refl

pub store_number
    : (ps qs packet image marks : List ℕ)
    → (cursor_store ps qs packet image marks).answer.status
    ≡ cond (records_whole (length ps) (length qs)) (number_of (store_status (picture_of qs) packet image marks)) 10
unfolding cursor_store
store_number ps qs packet image marks = go (records_whole (length ps) (length qs))
  where
    stored_number : (x : Result Stored Refused) (bytes filled : List ℕ) → (store_answered packet x ps qs bytes filled).answer.status ≡ (numbered x).number
    stored_number (Ok y) bytes filled = refl
    stored_number (Err r) bytes filled = refl

    s : State
    s = record { pointer = pointer_of ps; picture = picture_of qs; image = image; marks = marks }

    after : Outcome (Result Stored Refused)
    after = stored (pointer_of ps) (picture_of qs) packet image marks

    go : (b : Bool) → (cond b (all_answered packet after ps qs) (after_store short ps qs image marks)).answer.status
        ≡ cond b (number_of (store_status (picture_of qs) packet image marks)) 10
    go true = stored_number after.answer after.image after.marks ∙ ap (λ (n : Numbered). n.number) (store-by-checks s packet)
    go false = refl

-- A refusal keeps everything: by the outcomes.

keeps_position : (ps : List ℕ) → PositionOutcome → Type 0
keeps_position ps r = (r.answer.status ≡ 0 → ⊥) → r ≡ after_position r.answer ps

position_kept : (ps : List ℕ) (a : Result Pointer Refused) → keeps_position ps (position_answered a ps)
unfolding keeps_position
position_kept ps (Ok p) h = absurd (h refl)
position_kept ps (Err r) h = refl

pub position_refusal_keeps : PositionRefusalKeeps
unfolding PositionRefusalKeeps cursor_position keeps_position
position_refusal_keeps ps packet =
    by_test (keeps_position ps) (leb pointer_length (length ps)) _ (after_position short ps)
    (λ e. position_kept ps (positioned (pointer_of ps) packet))
    (λ e h. refl)

module _ (ps qs packet image marks : List ℕ) where
  keeps_store : StoreOutcome → Type 0
  keeps_store r = (r.answer.status ≡ 0 → ⊥) → r ≡ after_store r.answer ps qs image marks

  stored_kept : keeps_store (all_answered packet (stored (pointer_of ps) (picture_of qs) packet image marks) ps qs)
  unfolding keeps_store
  stored_kept = rw (stored_is (pointer_of ps) (picture_of qs) packet image marks) (go (store_status (picture_of qs) packet image marks))
    where
      go : (s : Status) → keeps_store (all_answered packet (stored_as (pointer_of ps) (picture_of qs) packet image marks s) ps qs)
      go (Ok u) h = absurd (h refl)
      go (Err r) h = refl

pub store_refusal_keeps : StoreRefusalKeeps
unfolding StoreRefusalKeeps cursor_store keeps_store
store_refusal_keeps ps qs packet image marks =
    by_test (keeps_store ps qs packet image marks) (records_whole (length ps) (length qs)) _ (after_store short ps qs image marks)
    (λ e. stored_kept ps qs packet image marks)
    (λ e h. refl)
