-- What the lesser of two numbers is below. Assumes nothing.
use Rattle.std.proofs.Common.{ℕ, ◌≤◌, arith}
use Rattle.scan.specs.Order.{lesser}

pub lesser_le : (a b : ℕ) → (lesser a b ≤ a) × (lesser a b ≤ b)
unfolding lesser
lesser_le a b = (omega arith, omega arith)
