-- What it says that a picture has room, and that two records are the same. Assumes nothing.
use Prim.Native.Nat.{ℕ, ◌≤◌}
use mathlib.Core.Path.{◌≡◌, refl}
use mathlib.Core.Bool.{Bool, true, false, ◌&&◌, beq, false≢true}
use borrow.Author.Tests.{leb-true, eqb-true}
use lib.Dec.{leb}
use Rattle.wire.proofs.Laws.Bool.{both}
use Rattle.cursor_fragment.proofs.Laws.Start.{same_start_is}
use Rattle.cursor_picture.specs.declared.Picture.{Picture}
use Rattle.cursor_picture.specs.Picture.{same_picture, has_room, held}

pub room_says : (t b m : ℕ) → has_room t b m ≡ true → (t ≤ b) × (t ≤ m)
unfolding has_room
room_says t b m h =
    let r = both (leb t b) (leb t m) (both (leb t 262144) (leb t b && leb t m) h).1 in
    (leb-true t b r.0, leb-true t m r.1)

pub held_says : (q : Picture) (b m : ℕ) → held q b m ≡ true → q.opened ≡ true → has_room q.total b m ≡ true
unfolding held
held_says q b m h e = simp e at h

same_flag : (a b : Bool) → beq a b ≡ true → a ≡ b
same_flag true true h = refl
same_flag true false h = absurd (false≢true h)
same_flag false true h = absurd (false≢true h)
same_flag false false h = refl

pub same_picture_is : (a b : Picture) → same_picture a b ≡ true → a ≡ b
unfolding same_picture
same_picture_is a b h =
    let start = both _ _ h in
    let seen = both _ _ start.0 in
    let opening = both _ _ seen.0 in
    let total = both _ _ opening.0 in
    let id = both _ _ total.0 in
    by_fields (same_flag _ _ id.0) (eqb-true _ _ id.1) (eqb-true _ _ total.1) (eqb-true _ _ opening.1) (same_flag _ _ seen.1)
    (same_start_is _ _ start.1)
  where
    by_fields : a.opened ≡ b.opened → a.id ≡ b.id → a.total ≡ b.total → a.opening ≡ b.opening → a.seen ≡ b.seen → a.start ≡ b.start
        → record { opened = a.opened; id = a.id; total = a.total; opening = a.opening; seen = a.seen; start = a.start } ≡ b
    by_fields o i t n s f = rw (o, i, t, n, s, f)
