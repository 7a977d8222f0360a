-- What is written of a picture's record reads back, and what a call leaves of it is bytes again. Assumes nothing.
use Prim.Native.Nat.{ℕ, ◌≤◌}
use mathlib.Core.Path.{◌≡◌, refl}
use mathlib.Core.Bool.{Bool, false}
use mathlib.Core.List.{List, [], ◌++◌}
use lib.ListN.{length}
use Rattle.cursor_fragment.specs.declared.start.Start.{Start}
use Rattle.cursor_picture.specs.declared.Picture.{Picture}
use Rattle.wire.specs.Laid.{laid}
use Rattle.wire.specs.Layout.{flag}
use Rattle.wire.specs.LittleEndian.{bytes}
use Rattle.wire.specs.Number.{bytes_in, Bytes}
use Rattle.cursor_picture.specs.Picture.{same_picture}
use Rattle.cursor_picture.proofs.Laws.Picture.{same_picture_is}
use Rattle.cursor_layout.specs.PictureLayout.{picture_length, start_bytes, picture_bytes, picture_of, picture_left, PictureFits, PictureReadsBack}
use Rattle.wire.proofs.Laws.Bool.{by_test}
use Rattle.wire.proofs.Laws.Bytes.{number_at_small, number_bytes_small, next_bytes, laid_bytes}
use Rattle.wire.proofs.Laws.Laid.{length_laid}
use Rattle.wire.proofs.Laws.Layout.{Begins, laid_begins, before, number_in, flag_in}

pub start_length : (seen : Bool) (s : Start) → length (start_bytes seen s) ≡ 6
unfolding start_bytes bytes_in
start_length seen s = refl

-- the bytes of a picture before each of its places
module _ (q : Picture) where
  abbrev d1 : List ℕ
  d1 = bytes 1 (flag q.opened)

  abbrev d3 : List ℕ
  d3 = d1 ++ bytes 2 q.id

  abbrev d7 : List ℕ
  d7 = d3 ++ bytes 4 q.total

  abbrev d9 : List ℕ
  d9 = d7 ++ bytes 2 q.opening

  abbrev d10 : List ℕ
  d10 = d9 ++ bytes 1 (flag q.seen)

  abbrev d11 : List ℕ
  d11 = d10 ++ bytes 1 q.start.image_type

  abbrev d13 : List ℕ
  d13 = d11 ++ bytes 2 q.start.hot_x

  picture_begins : (xs : List ℕ) → picture_length ≤ length xs → Begins picture_length (d13 ++ bytes 2 q.start.hot_y) (laid (picture_bytes q) xs)
  unfolding picture_bytes start_bytes bytes_in
  picture_begins xs h = laid_begins picture_length (picture_bytes q) xs refl h

pub picture_reads_back : PictureReadsBack
unfolding picture_of
picture_reads_back q xs f h =
    let s = q.start in
    let b15 = picture_begins q xs h in
    let b13 = before 13 (d13 q) 2 s.hot_y b15 in
    let b11 = before 11 (d11 q) 2 s.hot_x b13 in
    let b10 = before 10 (d10 q) 1 s.image_type b11 in
    let b9 = before 9 (d9 q) 1 (flag q.seen) b10 in
    let b7 = before 7 (d7 q) 2 q.opening b9 in
    let b3 = before 3 (d3 q) 4 q.total b7 in
    let b1 = before 1 (d1 q) 2 q.id b3 in
    rw (
      flag_in 0 [] q.opened b1,
      number_in 1 (d1 q) 2 q.id f.id b3,
      number_in 3 (d3 q) 4 q.total f.total b7,
      number_in 7 (d7 q) 2 q.opening f.opening b9,
      flag_in 9 (d9 q) q.seen b10,
      number_in 10 (d10 q) 1 s.image_type f.image b11,
      number_in 11 (d11 q) 2 s.hot_x f.x b13,
      number_in 13 (d13 q) 2 s.hot_y f.y b15,
    )

-- the numbers of a record of bytes fit
pub picture_fits : (xs : List ℕ) → Bytes xs → PictureFits (picture_of xs)
unfolding picture_of
picture_fits xs small = record {
  id = number_at_small 2 1 xs small;
  total = number_at_small 4 3 xs small;
  opening = number_at_small 2 7 xs small;
  image = number_at_small 1 10 xs small;
  x = number_at_small 2 11 xs small;
  y = number_at_small 2 13 xs small;
}

-- its own bytes are bytes
picture_bytes_lem : (q : Picture) → Bytes (picture_bytes q)
unfolding picture_bytes start_bytes bytes_in
picture_bytes_lem q =
    let b1 : Bytes (d1 q) = number_bytes_small false 1 (flag q.opened) in
    let b3 : Bytes (d3 q) = next_bytes (d1 q) false 2 q.id b1 in
    let b7 : Bytes (d7 q) = next_bytes (d3 q) false 4 q.total b3 in
    let b9 : Bytes (d9 q) = next_bytes (d7 q) false 2 q.opening b7 in
    let b10 : Bytes (d10 q) = next_bytes (d9 q) false 1 (flag q.seen) b9 in
    let b11 : Bytes (d11 q) = next_bytes (d10 q) false 1 q.start.image_type b10 in
    let b13 : Bytes (d13 q) = next_bytes (d11 q) false 2 q.start.hot_x b11 in
    next_bytes (d13 q) false 2 q.start.hot_y b13

-- what a call leaves of the record xs: the picture afterwards, in as many bytes
module _ (after : Picture) (xs : List ℕ) where
  pub left_reads : PictureFits after → picture_length ≤ length xs → picture_of (picture_left (picture_of xs) after xs) ≡ after
  unfolding picture_left
  left_reads fits h =
      by_test (λ (ys : List ℕ). picture_of ys ≡ after) (same_picture (picture_of xs) after) xs (laid (picture_bytes after) xs)
      (λ e. same_picture_is (picture_of xs) after e)
      (λ e. picture_reads_back after xs fits h)

  pub left_length : length (picture_left (picture_of xs) after xs) ≡ length xs
  unfolding picture_left
  left_length =
      by_test (λ (ys : List ℕ). length ys ≡ length xs) (same_picture (picture_of xs) after) xs (laid (picture_bytes after) xs)
      (λ e. refl)
      (λ e. length_laid (picture_bytes after) xs)

  pub left_bytes : Bytes xs → Bytes (picture_left (picture_of xs) after xs)
  unfolding picture_left
  left_bytes small =
      by_test Bytes (same_picture (picture_of xs) after) xs (laid (picture_bytes after) xs)
      (λ e. small)
      (λ e. laid_bytes (picture_bytes after) xs (picture_bytes_lem after) small)
