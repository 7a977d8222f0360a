-- The cursor limits as bytes. Assumes nothing.
use Rattle.std.specs.Prelude.{ℕ, ◌≤◌, ◌<◌, ◌≡◌, List, ◌++◌, cond, eqb, length}
use Rattle.cursor_limits.specs.declared.value.Value.{Value}
use Rattle.cursor_limits.specs.declared.value.Value.TheVariants as value
use Rattle.cursor_limits.specs.Value.{xor_byte, xor_of}
use Rattle.wire.specs.Laid.{laid}
use Rattle.wire.specs.LittleEndian.{number_at, bytes}

-- whether the extension is supported, the XOR operation, width, height and port
unfoldable pub number_bytes : ℕ → ℕ → ℕ → ℕ → ℕ → List ℕ
number_bytes supported x w h p = bytes 1 supported ++ bytes 1 x ++ bytes 2 w ++ bytes 2 h ++ bytes 2 p

abbrev pub limits_bytes : Value → List ℕ
limits_bytes value.NotSupported = number_bytes 0 0 0 0 0
limits_bytes (value.Supported l) = number_bytes 1 (xor_byte l.xor) l.width l.height l.port

unfoldable pub limits_in : List ℕ → Value
limits_in xs =
    cond (eqb (number_at 1 xs 0) 0) value.NotSupported
    (value.Supported (record { xor = xor_of (number_at 1 xs 1); width = number_at 2 xs 2; height = number_at 2 xs 4; port = number_at 2 xs 6 }))

-- What is written reads back, where each number is below 65,536. The proof stands in proofs/Laws/LimitsLayout.antt.
abbrev pub Fits : Value → Type 0
Fits value.NotSupported = Unit {0}
Fits (value.Supported l) = (l.width < 65536) × (l.height < 65536) × (l.port < 65536)

abbrev pub LimitsBack : Type 0
LimitsBack = (v : Value) (xs : List ℕ) → 8 ≤ length xs → Fits v → limits_in (laid (limits_bytes v) xs) ≡ v
