-- Numbers in bytes, the least significant byte first: those of the records. Assumes nothing.
use Rattle.std.specs.Prelude.{◌≡◌, ℕ, ◌+◌, ◌≤◌, false, cond, List, length, nat_le}
use Rattle.wire.specs.Number.{number_in, bytes_in, written_in}

-- the number in the n bytes from `at`, or 0 where they are not all there
unfoldable pub number_at : ℕ → List ℕ → ℕ → ℕ
number_at n s at = cond (nat_le (at + n) (length s)) (number_in false n s at) 0

abbrev pub bytes : ℕ → ℕ → List ℕ
bytes = bytes_in false

abbrev pub written : ℕ → ℕ → ℕ → List ℕ → List ℕ
written = written_in false

-- Where its bytes are all there, a number of a record is one of the shared definition, and the laws of Number.antt hold of it. The proof stands
-- in proofs/Laws/Layout.antt.
abbrev pub AllThere : Type 0
AllThere = (n at : ℕ) (s : List ℕ) → at + n ≤ length s → number_at n s at ≡ number_in false n s at
