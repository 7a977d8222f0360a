-- Bytes laid over the first of a lent slice: all of them or none. Assumes nothing.
use Rattle.std.specs.Prelude.{ℕ, cond, List, length, nat_le}
use Rattle.wire.specs.Splice.{splice}

-- xs with the bytes bs in its first places; where it is too short for them, xs as it was
unfoldable pub laid : List ℕ → List ℕ → List ℕ
laid bs xs = cond (nat_le (length bs) (length xs)) (splice 0 bs xs) xs
