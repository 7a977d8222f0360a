-- Numbers in bytes, over the order and the number of the bytes (01: "All numbers on the wire are big-endian"; "Reading of two- and
-- four-byte numbers is one shared fact over the width"). Assumes nothing.
use Rattle.std.specs.Prelude.{◌≡◌, ℕ, zero, suc, ◌+◌, ◌*◌, ◌/◌, ◌%◌, ◌^◌, ◌<◌, ◌≤◌, Bool, true, cond, List, [], ◌∷◌, ◌++◌, length, take, drop, nat_le, slice_index}
use Rattle.wire.specs.Splice.{splice}

-- The order is where the least significant byte stands: last (`big`), or first. Of n + 1 bytes from `at`:

-- the place of the least significant
abbrev pub low_at : Bool → ℕ → ℕ → ℕ
low_at big n at = cond big (at + n) at

-- the place where the others begin
abbrev pub rest_at : Bool → ℕ → ℕ
rest_at big at = cond big at (at + 1)

-- the bytes, where b is the least significant and bs are the others
abbrev pub joined : Bool → List ℕ → ℕ → List ℕ
joined big bs b = cond big (bs ++ (b ∷ [])) (b ∷ bs)

-- the number in the n bytes from `at`; a byte past the end counts as 0
unfoldable pub number_in : Bool → ℕ → List ℕ → ℕ → ℕ
number_in big zero s at = 0
number_in big (suc n) s at = 256 * number_in big n s (rest_at big at) + slice_index s (low_at big n at)

-- v in n bytes; what n bytes can't hold of it is left out
unfoldable pub bytes_in : Bool → ℕ → ℕ → List ℕ
bytes_in big zero v = []
bytes_in big (suc n) v = joined big (bytes_in big n (v / 256)) (v % 256)

-- xs after v was written in the n bytes from `at`; where they don't fit, xs as it was
unfoldable pub written_in : Bool → ℕ → ℕ → ℕ → List ℕ → List ℕ
written_in big n v at xs = cond (nat_le (at + n) (length xs)) (splice at (bytes_in big n v) xs) xs

-- The most significant byte first, as on the wire. (Those of the records: LittleEndian.antt.)
abbrev pub number : ℕ → List ℕ → ℕ → ℕ
number = number_in true

abbrev pub bytes : ℕ → ℕ → List ℕ
bytes = bytes_in true

abbrev pub written : ℕ → ℕ → ℕ → List ℕ → List ℕ
written = written_in true

-- every element is a byte, as it is in each slice that a call is lent
abbrev pub Bytes : List ℕ → Type 0
Bytes s = (k : ℕ) → slice_index s k < 256

-- The laws that tie reading and writing, for either order and any number of bytes. Their proofs stand in proofs/Laws/Number.antt.

-- what is written reads back
abbrev pub ReadsBack : Type 0
ReadsBack = (big : Bool) (n v at : ℕ) (xs : List ℕ) → at + n ≤ length xs → v < 256 ^ n → number_in big n (written_in big n v at xs) at ≡ v

-- what was read from bytes is written as those bytes
abbrev pub WritesBack : Type 0
WritesBack =
    (big : Bool) (n at : ℕ) (s : List ℕ) → at + n ≤ length s → Bytes s
    → bytes_in big n (number_in big n s at) ≡ take n (drop at s)
