-- What it says that the own fields of two starts are the same. Assumes nothing.
use mathlib.Core.Path.{◌≡◌}
use mathlib.Core.Bool.{true}
use borrow.Author.Tests.{eqb-true}
use Rattle.wire.proofs.Laws.Bool.{both}
use Rattle.cursor_fragment.specs.declared.start.Start.{Start}
use Rattle.cursor_fragment.specs.Start.{same_start}

pub same_start_is : (a b : Start) → same_start a b ≡ true → a ≡ b
unfolding same_start
same_start_is a b h =
    let image = both _ _ h in
    let hot = both _ _ image.1 in
    by_fields (eqb-true _ _ image.0) (eqb-true _ _ hot.0) (eqb-true _ _ hot.1)
  where
    by_fields : a.image_type ≡ b.image_type → a.hot_x ≡ b.hot_x → a.hot_y ≡ b.hot_y
        → record { image_type = a.image_type; hot_x = a.hot_x; hot_y = a.hot_y } ≡ b
    by_fields i x y = rw (i, x, y)
