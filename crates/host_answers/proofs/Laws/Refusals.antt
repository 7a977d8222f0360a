-- What is answered for a refusal alone is what its result is answered as. Assumes nothing.
use Rattle.std.proofs.Common.{◌≡◌, ℕ, refl}
use Rattle.std.specs.Prelude.{Err}
use Rattle.wire.specs.declared.status.Refusal.{Refusal}
use Rattle.wire.specs.Status.{refused_at}
use Rattle.host_answers.specs.Answers.{refused, not_written, not_answered, answer_of, written_of, yes_of}

-- of a reader
pub refused_is : (A : Type 0) (r : Refusal) (place : ℕ) → answer_of {A = A} (Err (refused_at r place)) ≡ refused r place
refused_is A r place = refl

-- of a writer
pub not_written_is : (r : Refusal) (place : ℕ) → written_of (Err (refused_at r place)) ≡ not_written r
not_written_is r place = refl

-- of a question
pub not_answered_is : (r : Refusal) (place : ℕ) → yes_of (Err (refused_at r place)) ≡ not_answered r
not_answered_is r place = refl
