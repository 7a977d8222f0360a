-- The XOR operation as a byte, and limits as text. Assumes nothing.
use Rattle.std.specs.Prelude.{ℕ, List, ◌++◌, cond, eqb, codes}
use Rattle.std.specs.Fmt.{decimal}
use Rattle.cursor_limits.specs.declared.value.Xor.{Xor}
use Rattle.cursor_limits.specs.declared.value.Xor.TheVariants as xor
use Rattle.cursor_limits.specs.declared.value.Limits.{Limits}

-- the XOR operation: 0 for no, any other byte for yes, written as 1
abbrev pub xor_byte : Xor → ℕ
xor_byte xor.None = 0
xor_byte xor.Full = 1

unfoldable pub xor_of : ℕ → Xor
xor_of b = cond (eqb b 0) xor.None xor.Full

-- the word of the XOR operation
abbrev pub xor_text : Xor → List ℕ
xor_text xor.None = codes "none"
xor_text xor.Full = codes "full"

-- each field after its name; numbers are decimal
abbrev pub limits_text : Limits → List ℕ
limits_text l =
    codes "xor " ++ xor_text l.xor ++ codes " width " ++ decimal l.width ++ codes " height " ++ decimal l.height ++ codes " port " ++ decimal l.port
