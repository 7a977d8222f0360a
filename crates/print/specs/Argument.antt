-- What is said of an argument that can't be had as text. Assumes nothing.
use Rattle.std.specs.Prelude.{ℕ, Result, Ok, Err, ℤ, pos}
use Rattle.std.specs.declared.env.FillError.{FillError}
use Rattle.std.specs.declared.env.FillError.TheVariants as fill_error

-- the system's number of the error: one that was got is no text (84), one is longer than the bytes lent for it (36), one is missing (22)
abbrev pub refusal_of : Result ℕ FillError → ℤ
refusal_of (Ok n) = pos 84
refusal_of (Err fill_error.TooLong) = pos 36
refusal_of (Err fill_error.NotPresent) = pos 22
