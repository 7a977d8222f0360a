-- Laws of `within`. Assumes nothing.
use Prim.Native.Nat.{ℕ, ◌≤◌, ◌<◌}
use mathlib.Core.Path.{◌≡◌}
use mathlib.Core.Bool.{true, false}
use borrow.Author.Tests.{le-leb, lt-leb, leb-true}
use lib.Dec.{leb}
use Rattle.wire.proofs.Laws.Bool.{and_false, both}
use Rattle.text.specs.Range.{within}

module _ (low high b : ℕ) where
  pub inside : low ≤ b → b ≤ high → within low high b ≡ true
  unfolding within
  inside l h = simp (le-leb low b l, le-leb b high h)

  pub below : b < low → within low high b ≡ false
  unfolding within
  below l = simp (lt-leb low b l)

  pub above : high < b → within low high b ≡ false
  unfolding within
  above l = simp (lt-leb b high l) (and_false (leb low b))

pub within_true : (low high b : ℕ) → within low high b ≡ true → (low ≤ b) × (b ≤ high)
unfolding within
within_true low high b e =
    let h = both (leb low b) (leb b high) e in
    (leb-true low b h.0, leb-true b high h.1)
