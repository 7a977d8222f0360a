-- Laws of `laid`. Assumes nothing.
use Rattle.std.proofs.Common.{◌≡◌, ℕ, ◌<◌, ◌≤◌, leb, List, length, refl, arith, le-leb, leb-true}
use borrow.Author.Tests.{lt-leb}
use Rattle.wire.specs.Splice.{splice}
use Rattle.wire.specs.Laid.{laid}
use Rattle.wire.proofs.Laws.Splice.{length_splice}
use Rattle.wire.proofs.Laws.Bool.{by_test}

pub laid_fits : (ds xs : List ℕ) → length ds ≤ length xs → laid ds xs ≡ splice 0 ds xs
unfolding laid
laid_fits ds xs h = simp (le-leb (length ds) (length xs) h)

pub laid_short : (ds xs : List ℕ) → length xs < length ds → laid ds xs ≡ xs
unfolding laid
laid_short ds xs h = simp (lt-leb (length ds) (length xs) h)

pub length_laid : (ds xs : List ℕ) → length (laid ds xs) ≡ length xs
unfolding laid
length_laid ds xs =
    by_test (λ (ys : List ℕ). length ys ≡ length xs) (leb (length ds) (length xs)) (splice 0 ds xs) xs
    (λ e. length_splice 0 ds xs (omega (arith, leb-true (length ds) (length xs) e)))
    (λ e. refl)
