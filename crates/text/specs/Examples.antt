-- Digits and words of the papers, read and written. Each is computed. Assumes nothing.
use Rattle.std.specs.Prelude.{◌≡◌, refl, true, false, [], ◌∷◌, Some}
use Rattle.wire.specs.Below.{all_below}
use Rattle.text.specs.Range.{within}
use Rattle.text.specs.Hex.{digit_value, is_digit, number, read_digits, digit_of, spell_digits}
use Rattle.text.specs.Word.{lowered, same_letter, spells}

-- 01, P11: `0100` is 256
pub p11 : read_digits (0x30 ∷ 0x31 ∷ 0x30 ∷ 0x30 ∷ []) ≡ Some 256
unfolding within all_below digit_value is_digit number read_digits
p11 = refl

-- the same digits written
pub p11_written : spell_digits 4 256 ≡ 0x30 ∷ 0x31 ∷ 0x30 ∷ 0x30 ∷ []
unfolding digit_of spell_digits
p11_written = refl

-- `FuLl` spells "full", `fool` doesn't
pub either_case : spells (0x66 ∷ 0x75 ∷ 0x6C ∷ 0x6C ∷ []) (0x46 ∷ 0x75 ∷ 0x4C ∷ 0x6C ∷ []) ≡ true
unfolding within all_below lowered same_letter spells
either_case = refl

pub other_word : spells (0x66 ∷ 0x75 ∷ 0x6C ∷ 0x6C ∷ []) (0x66 ∷ 0x6F ∷ 0x6F ∷ 0x6C ∷ []) ≡ false
unfolding within all_below lowered same_letter spells
other_word = refl
