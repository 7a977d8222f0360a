-- Bytes in hexadecimal digits. Assumes nothing.
use Rattle.std.specs.Prelude.{ℕ, ◌/◌, ◌%◌, false, List, [], ◌∷◌}
use Rattle.std.specs.List.{flat_map}
use Rattle.std.specs.Fmt.{digit_glyph}

-- the two digits of a byte, the most significant first, in small letters
abbrev pub byte_text : ℕ → List ℕ
byte_text b = digit_glyph false (b / 16) ∷ digit_glyph false (b % 16) ∷ []

-- the digits of each byte
abbrev pub hex_text : List ℕ → List ℕ
hex_text bytes = flat_map byte_text bytes
