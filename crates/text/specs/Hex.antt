-- Numbers in hexadecimal digits, over the number of digits. Assumes nothing.
use Rattle.std.specs.Prelude.{ℕ, zero, suc, ◌+◌, ◌-◌, ◌*◌, ◌/◌, ◌%◌, List, [], ◌∷◌, ◌++◌, Bool, cond, ◌&&◌, leb, length, get_or, Option, Some, None}
use Rattle.std.specs.Option.{is_some, unwrap_or}
use Rattle.wire.specs.Below.{all_below}
use Rattle.text.specs.Range.{within}

-- the value of the hexadecimal digit b, in either case; none for any other byte
unfoldable pub digit_value : ℕ → Option ℕ
digit_value b =
    cond (within 0x30 0x39 b) (Some (b - 0x30))
    (cond (within 0x41 0x46 b) (Some (b - 0x41 + 10))
    (cond (within 0x61 0x66 b) (Some (b - 0x61 + 10))
    None))

-- whether the byte at k is a hexadecimal digit
unfoldable pub is_digit : List ℕ → ℕ → Bool
is_digit s k = is_some (digit_value (get_or s k 0))

-- the number in the first n digits, the most significant first; a byte that is no digit counts as 16
unfoldable pub number : ℕ → List ℕ → ℕ
number zero s = 0
number (suc n) s = 16 * number n s + unwrap_or (digit_value (get_or s n 0)) 16

-- what the bytes s say as hexadecimal digits: their number, where each of them is a digit and there are at most four
unfoldable pub read_digits : List ℕ → Option ℕ
read_digits s =
    cond (leb (length s) 4 && all_below (length s) (is_digit s)) (Some (number (length s) s)) None

-- the digits "0123456789ABCDEF"
abbrev pub digit_table : List ℕ
digit_table =
    0x30 ∷ 0x31 ∷ 0x32 ∷ 0x33 ∷ 0x34 ∷ 0x35 ∷ 0x36 ∷ 0x37 ∷ 0x38 ∷ 0x39 ∷ 0x41 ∷ 0x42 ∷ 0x43 ∷ 0x44 ∷ 0x45 ∷ 0x46 ∷ []

-- the digit of the value d, in capitals
unfoldable pub digit_of : ℕ → ℕ
digit_of d = get_or digit_table d 0

-- v in n digits, the most significant first; what n digits can't hold of it is left out
unfoldable pub spell_digits : ℕ → ℕ → List ℕ
spell_digits zero v = []
spell_digits (suc n) v = spell_digits n (v / 16) ++ (digit_of (v % 16) ∷ [])
