-- A short record stays as it is. Assumes nothing.
use Prim.Native.Nat.{ℕ, ◌<◌, ◌≤◌}
use mathlib.Core.Path.{◌≡◌, refl, sym}
use mathlib.Core.List.{List}
use native.Mathlib.Omega.{arith}
use native.Mathlib.Decide.{dec_lt}
use borrow.Author.Tests.{le-ltb}
use lib.ListN.{length}
use Rattle.std.specs.Prelude.{Ok, Err}
use Rattle.std.proofs.lemmas.Result.{IfErr-at_err}
use Rattle.wire.proofs.Laws.Laid.{laid_short}
use Rattle.wire.specs.declared.status.Refusal.{Refusal}
use Rattle.message_reader.specs.Reading.{Answer, read_message}
use Rattle.message_layout.specs.MessageLayout.{message_bytes}
use Rattle.message_layout.proofs.Laws.MessageLayout.{length_message}
use Rattle.message_calls.specs.MessageCalls.{held, record_of, read_record}
use Rattle.message_calls.proofs.read_into.Goals as goal

-- bytes that hold no record are fewer than its layout's
fewer : (n : ℕ) (r : Refusal) → Err r ≡ held n → n < 64
unfolding held
fewer n r e = elim (dec_lt n 64) [
  | yes h ↦ h
  | no h ↦
      let f : 64 ≤ n = omega arith in
      absurd (IfErr-at_err (λ (x : Refusal). ⊥) (sym (simp (le-ltb n 64 f) at e)) tt)
]

short_kept : (a : Answer) (xs : List ℕ) → length xs < 64 → xs ≡ record_of a xs
short_kept (Ok m) xs h = sym (laid_short (message_bytes m) xs (let n = length_message m in omega arith))
short_kept (Err r) xs h = refl

pub returns-in_err-check_held-clause-after : goal.returns-in_err-check_held-clause-after
unfolding read_record
returns-in_err-check_held-clause-after c = let a = c.args in
    short_kept (read_message a.bytes.now) a.«record».now (fewer _ _ c.in_err-check_held.ensures)
