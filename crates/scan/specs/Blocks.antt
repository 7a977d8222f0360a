-- Places that are hit: `hits k m` says that m may be the answer for the place k, and a place is hit where its answer is not 0. Assumes nothing.
use Rattle.std.specs.Prelude.{ℕ, Bool, false, ◌+◌, ◌≤◌, ◌<◌}

-- some place from `from` on and before `to` is hit
abbrev pub SomeHit : (ℕ → ℕ → Type 0) → ℕ → ℕ → Type 0
SomeHit hits from to = (k : ℕ) × (m : ℕ) × (from ≤ k) × (k < to) × hits k m × (0 < m)

-- none of them is
abbrev pub NoneHit : (ℕ → ℕ → Type 0) → ℕ → ℕ → Type 0
NoneHit hits from to = (k : ℕ) → from ≤ k → k < to → hits k 0

-- each place from `from` on and before `to` lies in a block, of `size` places before n, that does not stop; `stops k b` says that b may be the
-- answer for the block that begins at the place k
abbrev pub AllPassed : (ℕ → Bool → Type 0) → ℕ → ℕ → ℕ → ℕ → Type 0
AllPassed stops size n from to
    = (j : ℕ) → from ≤ j → j < to → (k : ℕ) × (from ≤ k) × (k ≤ j) × (j < k + size) × (k + size ≤ n) × stops k false
