-- The pointer as bytes. Assumes nothing.
use Rattle.std.specs.Prelude.{ℕ, ◌≤◌, ◌<◌, ◌≡◌, List, ◌++◌, length}
use Rattle.std.specs.Int.Signed.{mag}
use Rattle.wire.specs.Signed.{signed, unsigned}
use Rattle.cursor_pointer.specs.declared.Pointer.{Pointer}
use Rattle.wire.specs.Laid.{laid}
use Rattle.wire.specs.Layout.{flag, is_set}
use Rattle.wire.specs.LittleEndian.{number_at, bytes}

-- its length in bytes
abbrev pub pointer_length : ℕ
pointer_length = 7

-- its bytes
unfoldable pub pointer_bytes : Pointer → List ℕ
pointer_bytes p = bytes 1 (flag p.known) ++ bytes 2 p.sequence ++ bytes 2 (unsigned 2 p.x) ++ bytes 2 (unsigned 2 p.y)

-- the pointer in bytes
unfoldable pub pointer_of : List ℕ → Pointer
pointer_of xs =
    record {
      known = is_set (number_at 1 xs 0);
      sequence = number_at 2 xs 1;
      x = signed 2 (number_at 2 xs 3);
      y = signed 2 (number_at 2 xs 5);
    }

-- What is written reads back, where the sequence number is one of 16 bits, and x and y are from −32,768 to 32,767 (`mag z` is n both for
-- n and for −n − 1). The proof stands in proofs/Laws/PointerLayout.antt.
abbrev pub PointerReadsBack : Type 0
PointerReadsBack =
    (p : Pointer) (xs : List ℕ) → p.sequence < 65536 → mag p.x < 32768 → mag p.y < 32768 → pointer_length ≤ length xs
    → pointer_of (laid (pointer_bytes p) xs) ≡ p
