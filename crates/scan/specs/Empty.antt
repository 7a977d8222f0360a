-- Empty and filled places (01, "Cursor packets": "marks, one byte a place, zero meaning empty, else filled"). Assumes nothing.
use Rattle.std.specs.Prelude.{ℕ, List, Bool, not, get_or, eqb}
use Rattle.std.specs.List.{position_or_len}

-- the place i is empty
abbrev pub empty_at : List ℕ → ℕ → Bool
empty_at marks i = eqb (get_or marks i 0) 0

-- the place i is filled
abbrev pub filled_at : List ℕ → ℕ → Bool
filled_at marks i = not (empty_at marks i)

-- the first empty place, or the number of marks where there is none
unfoldable pub first_empty : List ℕ → ℕ
first_empty marks = position_or_len (λ m. eqb m 0) marks
