-- The command and the values of a message determine its answer. Assumes nothing.
use Prim.Native.Nat.{ℕ}
use mathlib.Core.Path.{◌≡◌, refl, ap}
use Rattle.std.specs.Prelude.{Ok, Err}
use Rattle.std.proofs.lemmas.Result.{IfOk-at_ok, IfErr-at_err}
use Rattle.wire.specs.declared.status.Refused.{Refused}
use Rattle.message_reader.specs.Reading.{Answer}
use Rattle.message_reader.specs.Values.{message_from, values_of, values_after, command_of}

-- an accepted message is answered with the record of its command and its values
pub answer_accepted : (a : Answer) (c : ℕ) → Ok c ≡ command_of a → Ok (message_from c (values_after a)) ≡ a
unfolding message_from values_of
answer_accepted (Ok m) c q =
    let command : c ≡ m.command = IfOk-at_ok (λ (x : ℕ). c ≡ x) q refl in
    ap (λ (i : ℕ). Ok (message_from i (values_of m))) command
answer_accepted (Err r) c q = absurd (IfErr-at_err (λ (x : Refused). ⊥) q tt)

-- a refusal of the command is the answer
pub answer_refused : (a : Answer) (r : Refused) → Err r ≡ command_of a → Err r ≡ a
answer_refused (Ok m) r q = absurd (IfOk-at_ok (λ (x : ℕ). ⊥) q tt)
answer_refused (Err x) r q = ap Err (IfErr-at_err (λ (y : Refused). r ≡ y) q refl)

-- what a call that locates the values rests on
pub ruleset answered = (answer_accepted, answer_refused)
