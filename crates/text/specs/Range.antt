-- A test of a number's range. Assumes nothing.
use Rattle.std.specs.Prelude.{ℕ, Bool, ◌&&◌, leb}

-- whether b is one of the numbers from `low` to `high`
unfoldable pub within : ℕ → ℕ → ℕ → Bool
within low high b = leb low b && leb b high
