-- The rules of RFC 5234 that the grammars of values use: strings in quotes, SP and HEXDIG. Assumes nothing.
use Rattle.std.specs.Prelude.{ℕ, suc, ◌+◌, ◌*◌, ◌<◌, List, [], ◌∷◌, ◌++◌}

-- A string in quotes: its letters, each in either case (RFC 5234 section 2.3, "ABNF strings are case insensitive").

-- the byte b stands for the small letter c
pub data Letter : ℕ → ℕ → Type 0 where
  small : (k : ℕ) → k < 26 → Letter (0x61 + k) (0x61 + k)
  capital : (k : ℕ) → k < 26 → Letter (0x61 + k) (0x41 + k)

-- the bytes s stand for the word w, which is in small letters
pub data Quoted : List ℕ → List ℕ → Type 0 where
  no_letter : Quoted [] []
  letter : {c b : ℕ} {w s : List ℕ} → Letter c b → Quoted w s → Quoted (c ∷ w) (b ∷ s)

-- SP = %x20 (RFC 5234 section B.1)
abbrev pub space : ℕ
space = 0x20

-- HEXDIG = DIGIT / "A" / "B" / "C" / "D" / "E" / "F" (RFC 5234 section B.1): the byte b is a digit of the value d
pub data HexDig : ℕ → ℕ → Type 0 where
  decimal : (d : ℕ) → d < 10 → HexDig (0x30 + d) d
  upper : (d : ℕ) → d < 6 → HexDig (0x41 + d) (10 + d)
  lower : (d : ℕ) → d < 6 → HexDig (0x61 + d) (10 + d)

-- nHEXDIG, n of them: the bytes s are the digits of v, the most significant first
pub data HexDigs : ℕ → List ℕ → ℕ → Type 0 where
  no_digit : HexDigs 0 [] 0
  digit : {n v b d : ℕ} {s : List ℕ} → HexDigs n s v → HexDig b d → HexDigs (suc n) (s ++ (b ∷ [])) (16 * v + d)
