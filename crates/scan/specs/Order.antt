-- The lesser of two numbers. Assumes nothing.
use Rattle.std.specs.Prelude.{ℕ, min}

unfoldable pub lesser : ℕ → ℕ → ℕ
lesser a b = min a b
