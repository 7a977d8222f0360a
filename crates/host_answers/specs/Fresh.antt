-- The answer of a call that writes a fresh record: accepted, or 10 where fewer bytes are lent than the record needs. Assumes nothing.
use Rattle.std.specs.Prelude.{ℕ, cond, leb, Err}
use Rattle.wire.specs.declared.status.Refusal.TheVariants as refusal
use Rattle.wire.specs.Status.{accept, number_of}

unfoldable pub fresh_answer : ℕ → ℕ → ℕ
fresh_answer needed lent = number_of (cond (leb needed lent) accept (Err refusal.NoRoom))
