-- Letters in either case, and whether bytes spell a word. Assumes nothing.
use Rattle.std.specs.Prelude.{ℕ, ◌+◌, ◌-◌, List, Bool, cond, ◌&&◌, eqb, length, get_or}
use Rattle.wire.specs.Below.{all_below}
use Rattle.text.specs.Range.{within}

-- the byte b, a capital letter made small
unfoldable pub lowered : ℕ → ℕ
lowered b = cond (within 0x41 0x5A b) (b + 0x20) b

-- whether the byte at k of s is that of the word, or its capital
unfoldable pub same_letter : List ℕ → List ℕ → ℕ → Bool
same_letter w s k = eqb (lowered (get_or s k 0)) (get_or w k 0)

-- whether s spells the word w, which is in small letters
unfoldable pub spells : List ℕ → List ℕ → Bool
spells w s = eqb (length s) (length w) && all_below (length w) (same_letter w s)

-- the byte b, a small letter made a capital
unfoldable pub raised : ℕ → ℕ
raised b = cond (within 0x61 0x7A b) (b - 0x20) b
