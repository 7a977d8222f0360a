-- Bytes as they are printed. Each is computed. Assumes nothing.
use Rattle.std.specs.Prelude.{◌≡◌, refl, [], ◌∷◌, codes}
use Rattle.print.specs.Hex.{hex_text}

-- a zero before a small number, and small letters
pub two_digits_each : hex_text (0x07 ∷ 0x91 ∷ 0xf4 ∷ []) ≡ codes "0791f4"
two_digits_each = refl

-- no bytes have no digits
pub no_bytes : hex_text [] ≡ []
no_bytes = refl
