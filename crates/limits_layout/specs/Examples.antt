-- Values that meet the premises of the theorem, computed. Assumes nothing.
use Rattle.std.specs.Prelude.{ℕ, ◌≤◌, ◌≡◌, refl, List, length, replicate}
use Rattle.std.proofs.Common.{arith}
use Rattle.wire.specs.Laid.{laid}
use Rattle.wire.specs.LittleEndian.{number_at}
use Rattle.wire.specs.Number.{number_in, bytes_in}
use Rattle.wire.specs.Splice.{splice}
use Rattle.cursor_limits.specs.declared.value.Xor.TheVariants as xor
use Rattle.cursor_limits.specs.declared.value.Limits.{Limits}
use Rattle.cursor_limits.specs.declared.value.Value.TheVariants as value
use Rattle.cursor_limits.specs.Value.{xor_of}
use Rattle.limits_layout.specs.LimitsLayout.{number_bytes, limits_bytes, limits_in, Fits}

-- The premises of the theorems are met.

abbrev lent : List ℕ
lent = replicate 9 5

abbrev limits : Limits
limits = record { xor = xor.Full; width = 256; height = 128; port = 65535 }

-- LimitsBack: these limits, and none, in nine lent bytes
pub limits_back
    : (8 ≤ length lent) × Fits (value.Supported limits) × Fits value.NotSupported
    × (limits_in (laid (limits_bytes (value.Supported limits)) lent) ≡ value.Supported limits)
    × (limits_in (laid (limits_bytes value.NotSupported) lent) ≡ value.NotSupported)
unfolding number_in bytes_in number_at splice laid xor_of number_bytes limits_in
limits_back = (omega arith, (omega arith, omega arith, omega arith), tt, refl, refl)
