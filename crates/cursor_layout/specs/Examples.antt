-- The premises of the theorems are met. Each is computed. Assumes nothing.
use Rattle.std.specs.Prelude.{ℕ, ◌≤◌, ◌<◌, ◌≡◌, refl, true, List, [], ◌∷◌, pos, negsuc, length, replicate}
use Rattle.std.proofs.Common.{arith}
use Rattle.std.specs.Int.Signed.{mag}
use Rattle.wire.specs.Laid.{laid}
use Rattle.wire.specs.LittleEndian.{number_at}
use Rattle.wire.specs.Number.{number_in, bytes_in}
use Rattle.wire.specs.Signed.{signed, unsigned}
use Rattle.wire.specs.Splice.{splice}
use Rattle.cursor_picture.specs.declared.Picture.{Picture}
use Rattle.cursor_pointer.specs.declared.Pointer.{Pointer}
use Rattle.cursor_layout.specs.PointerLayout.{pointer_length, pointer_bytes, pointer_of}
use Rattle.cursor_layout.specs.PictureLayout.{picture_length, start_bytes, picture_bytes, picture_of, PictureFits}

-- lent bytes
abbrev pub nines : ℕ → List ℕ
nines n = replicate n 9

-- PointerReadsBack: a pointer at (−2, 10), in eight lent bytes of which the last stays
abbrev pub pointer : Pointer
pointer = record { known = true; sequence = 259; x = negsuc 1; y = pos 10 }

pub pointer_reads_back
    : (pointer.sequence < 65536) × (mag pointer.x < 32768) × (mag pointer.y < 32768) × (pointer_length ≤ length (nines 8))
    × (laid (pointer_bytes pointer) (nines 8) ≡ 1 ∷ 3 ∷ 1 ∷ 0xfe ∷ 0xff ∷ 10 ∷ 0 ∷ 9 ∷ [])
    × (pointer_of (laid (pointer_bytes pointer) (nines 8)) ≡ pointer)
unfolding pointer_bytes pointer_of laid splice number_at number_in bytes_in signed unsigned
pointer_reads_back = (omega arith, omega arith, omega arith, omega arith, refl, refl)

-- PictureReadsBack: numbers of two bytes and of four whose bytes all differ
abbrev pub picture : Picture
picture = record {
  opened = true;
  id = 0x0102;
  total = 0x03040506;
  opening = 0x0708;
  seen = true;
  start = record { image_type = 9; hot_x = 0x0a0b; hot_y = 0x0c0d };
}

pub picture_reads_back
    : PictureFits picture × (picture_length ≤ length (nines 15))
    × (picture_bytes picture ≡ 1 ∷ 2 ∷ 1 ∷ 6 ∷ 5 ∷ 4 ∷ 3 ∷ 8 ∷ 7 ∷ 1 ∷ 9 ∷ 0x0b ∷ 0x0a ∷ 0x0d ∷ 0x0c ∷ [])
    × (picture_of (laid (picture_bytes picture) (nines 15)) ≡ picture)
unfolding picture_bytes start_bytes picture_of laid splice number_at number_in bytes_in
picture_reads_back = (
  record { id = omega arith; total = omega arith; opening = omega arith; image = omega arith; x = omega arith; y = omega arith },
  omega arith,
  refl,
  refl,
)
