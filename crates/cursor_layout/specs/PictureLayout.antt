-- The record of the opened picture as bytes. Assumes nothing.
use Rattle.std.specs.Prelude.{ℕ, ◌≤◌, ◌<◌, ◌≡◌, Bool, cond, List, ◌++◌, length}
use Rattle.cursor_fragment.specs.declared.start.Start.{Start}
use Rattle.cursor_picture.specs.declared.Picture.{Picture}
use Rattle.cursor_picture.specs.Picture.{same_picture}
use Rattle.wire.specs.Laid.{laid}
use Rattle.wire.specs.Layout.{flag, is_set}
use Rattle.wire.specs.LittleEndian.{number_at, bytes}

-- its length in bytes
abbrev pub picture_length : ℕ
picture_length = 15

-- the last six bytes: whether a start was seen, and its own fields
unfoldable pub start_bytes : Bool → Start → List ℕ
start_bytes seen s = bytes 1 (flag seen) ++ bytes 1 s.image_type ++ bytes 2 s.hot_x ++ bytes 2 s.hot_y

-- its bytes
unfoldable pub picture_bytes : Picture → List ℕ
picture_bytes q =
    bytes 1 (flag q.opened) ++ bytes 2 q.id ++ bytes 4 q.total ++ bytes 2 q.opening ++ start_bytes q.seen q.start

-- the record in bytes
unfoldable pub picture_of : List ℕ → Picture
picture_of xs =
    record {
      opened = is_set (number_at 1 xs 0);
      id = number_at 2 xs 1;
      total = number_at 4 xs 3;
      opening = number_at 2 xs 7;
      seen = is_set (number_at 1 xs 9);
      start = record { image_type = number_at 1 xs 10; hot_x = number_at 2 xs 11; hot_y = number_at 2 xs 13 };
    }

-- what a call leaves of the record xs, which held `before`: the bytes of the picture afterwards where that is another, else each byte as it was
unfoldable pub picture_left : Picture → Picture → List ℕ → List ℕ
picture_left before after xs = cond (same_picture before after) xs (laid (picture_bytes after) xs)

-- the numbers are no larger than their bytes hold
pub record PictureFits (q : Picture) : Type 0 where
  pub id : q.id < 65536
  pub total : q.total < 4294967296
  pub opening : q.opening < 65536
  pub image : q.start.image_type < 256
  pub x : q.start.hot_x < 65536
  pub y : q.start.hot_y < 65536

-- What is written reads back. The proof stands in proofs/Laws/PictureLayout.antt.
abbrev pub PictureReadsBack : Type 0
PictureReadsBack = (q : Picture) (xs : List ℕ) → PictureFits q → picture_length ≤ length xs → picture_of (laid (picture_bytes q) xs) ≡ q
