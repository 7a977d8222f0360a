-- What is written of a pointer reads back. Assumes nothing.
use Prim.Native.Nat.{ℕ, ◌≤◌, ◌<◌}
use mathlib.Core.Path.{◌≡◌, refl, sym}
use mathlib.Core.Bool.{false}
use mathlib.Core.List.{List, [], ◌++◌}
use lib.IntN.{ℤ}
use lib.ListN.{length}
use lib.Signed.{mag}
use mir.Syntax.{w16}
use mir.Val.{of_z, SFits}
use mir.ValLaws.{to_z-of_z, of_z_fits, to_z-Fits}
use Rattle.wire.specs.Signed.{signed, unsigned}
use Rattle.wire.proofs.Laws.Signed.{signed_to_z, unsigned_of_z}
use Rattle.cursor_pointer.specs.declared.Pointer.{Pointer}
use Rattle.wire.specs.Laid.{laid}
use Rattle.wire.specs.Layout.{flag}
use Rattle.wire.specs.LittleEndian.{bytes}
use Rattle.wire.specs.Number.{bytes_in, Bytes}
use Rattle.cursor_layout.specs.PointerLayout.{pointer_length, pointer_bytes, pointer_of, PointerReadsBack}
use Rattle.wire.proofs.Laws.Bytes.{number_bytes_small, next_bytes}
use Rattle.wire.proofs.Laws.Layout.{Begins, laid_begins, before, number_in, flag_in}

-- two's complement goes back, and two bytes hold it
module _ (z : ℤ) (h : mag z < 32768) where
  fits : SFits w16 z
  fits = record { sfits = h }

  same : of_z w16 z ≡ unsigned 2 z
  same = unsigned_of_z w16 2 refl z

  small : of_z w16 z < 65536
  small = (of_z_fits w16 z fits).fits

  unsigned_small : unsigned 2 z < 65536
  unsigned_small = rw (sym same) small

  signed_unsigned : signed 2 (unsigned 2 z) ≡ z
  signed_unsigned = rw (sym same, sym (signed_to_z w16 2 refl refl (of_z w16 z) small)) (to_z-of_z w16 z fits)

-- a number in two bytes, as two's complement, is one of 16 bits
pub signed_small : (v : ℕ) → v < 65536 → mag (signed 2 v) < 32768
signed_small v h = rw (sym (signed_to_z w16 2 refl refl v h)) (to_z-Fits w16 v (record { fits = h })).sfits

-- the bytes of a pointer before each of its places
module _ (p : Pointer) where
  abbrev d1 : List ℕ
  d1 = bytes 1 (flag p.known)

  abbrev d3 : List ℕ
  d3 = d1 ++ bytes 2 p.sequence

  abbrev d5 : List ℕ
  d5 = d3 ++ bytes 2 (unsigned 2 p.x)

  pointer_begins : (xs : List ℕ) → pointer_length ≤ length xs → Begins pointer_length (d5 ++ bytes 2 (unsigned 2 p.y)) (laid (pointer_bytes p) xs)
  unfolding pointer_bytes bytes_in
  pointer_begins xs h = laid_begins pointer_length (pointer_bytes p) xs refl h

pub pointer_reads_back : PointerReadsBack
unfolding pointer_of
pointer_reads_back p xs s x y h =
    let b7 = pointer_begins p xs h in
    let b5 = before 5 (d5 p) 2 (unsigned 2 p.y) b7 in
    let b3 = before 3 (d3 p) 2 (unsigned 2 p.x) b5 in
    let b1 = before 1 (d1 p) 2 p.sequence b3 in
    rw (
      flag_in 0 [] p.known b1,
      number_in 1 (d1 p) 2 p.sequence s b3,
      number_in 3 (d3 p) 2 (unsigned 2 p.x) (unsigned_small p.x x) b5,
      number_in 5 (d5 p) 2 (unsigned 2 p.y) (unsigned_small p.y y) b7,
      signed_unsigned p.x x,
      signed_unsigned p.y y,
    )

-- its own bytes are bytes
pub pointer_bytes_lem : (p : Pointer) → Bytes (pointer_bytes p)
unfolding pointer_bytes bytes_in
pointer_bytes_lem p =
    let b1 : Bytes (d1 p) = number_bytes_small false 1 (flag p.known) in
    let b3 : Bytes (d3 p) = next_bytes (d1 p) false 2 p.sequence b1 in
    let b5 : Bytes (d5 p) = next_bytes (d3 p) false 2 (unsigned 2 p.x) b3 in
    next_bytes (d5 p) false 2 (unsigned 2 p.y) b5
