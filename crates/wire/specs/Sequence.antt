-- The order of sequence numbers of 16 bits (01, "Cursor packets": "Newer"). Assumes nothing.
use Rattle.std.specs.Prelude.{◌≡◌, ℕ, ◌+◌, ◌-◌, ◌%◌, ◌<◌, Bool, true, false, cond, ◌&&◌, ◌≢◌, nat_le}

-- new minus last, modulo 65,536
unfoldable pub distance : ℕ → ℕ → ℕ
distance last new = (new + (65536 - last)) % 65536

-- newer exactly from 1 to 32,767; where there is no last, everything is newer
unfoldable pub is_newer : Bool → ℕ → ℕ → Bool
is_newer known last new = cond known (nat_le 1 (distance last new) && nat_le (distance last new) 32767) true

-- The laws of this order, for sequence numbers, which are below 65,536. Their proofs stand in proofs/Laws/Sequence.antt.

-- no number is newer than itself
abbrev pub NeverItself : Type 0
NeverItself = (s : ℕ) → s < 65536 → is_newer true s s ≡ false

-- of two numbers at most one is newer than the other
abbrev pub OneWay : Type 0
OneWay = (a b : ℕ) → a < 65536 → b < 65536 → is_newer true a b ≡ true → is_newer true b a ≡ false

-- of two numbers that differ, and not by half of the range, one is newer than the other
abbrev pub OtherWay : Type 0
OtherWay =
    (a b : ℕ) → a < 65536 → b < 65536 → (a ≢ b) → (distance a b ≢ 32768) → is_newer true a b ≡ false → is_newer true b a ≡ true

-- both moved by the same amount, past 65,535 too, are in the same order
abbrev pub ShiftSame : Type 0
ShiftSame = (a b k : ℕ) → a < 65536 → b < 65536 → is_newer true ((a + k) % 65536) ((b + k) % 65536) ≡ is_newer true a b
