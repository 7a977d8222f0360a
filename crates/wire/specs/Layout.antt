-- Records as bytes: a flag is a byte. Assumes nothing.
use Rattle.std.specs.Prelude.{ℕ, Bool, cond, not, ◌==◌}

-- a flag is written as 0 or 1
abbrev pub flag : Bool → ℕ
flag b = cond b 1 0

-- and read as 0 for no, any other byte for yes
abbrev pub is_set : ℕ → Bool
is_set n = not (n == 0)
