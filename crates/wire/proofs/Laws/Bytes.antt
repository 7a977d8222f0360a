-- Lists of bytes: a record's numbers are small, and what is laid over bytes leaves them bytes. Assumes nothing.
use Rattle.std.proofs.Common.{◌≡◌, ℕ, zero, suc, ◌+◌, ◌-◌, ◌/◌, ◌%◌, ◌^◌, ◌<◌, Bool, true, false, ◌&&◌, ltb, leb, List, [], ◌∷◌, ◌++◌, length, get_or, subst, arith, get_or-append-add, leb-true}
use native.Mathlib.Decide.{dec_lt}
use lib.ListN.{get_or-append}
use Rattle.wire.specs.Laid.{laid}
use Rattle.wire.specs.LittleEndian.{number_at}
use Rattle.wire.specs.Number.{bytes_in, Bytes}
use Rattle.wire.specs.Splice.{splice}
use Rattle.wire.proofs.Laws.Bool.{by_test}
use Rattle.wire.proofs.Laws.Layout.{power_positive}
use Rattle.wire.proofs.Laws.Number.{number_small}
use Rattle.wire.proofs.Laws.Splice.{get_d_splice}

pub number_at_small : (n at : ℕ) (s : List ℕ) → Bytes s → number_at n s at < 256 ^ n
unfolding number_at
number_at_small n at s small =
    by_test (λ (v : ℕ). v < 256 ^ n) (leb (at + n) (length s)) _ 0 (λ e. number_small false n at s small) (λ e. power_positive n)

none_bytes : Bytes []
none_bytes k = omega arith

first_bytes : (b : ℕ) (bs : List ℕ) → b < 256 → Bytes bs → Bytes (b ∷ bs)
first_bytes b bs small rest zero = small
first_bytes b bs small rest (suc k) = rest k

append_bytes : (xs ys : List ℕ) → Bytes xs → Bytes ys → Bytes (xs ++ ys)
append_bytes xs ys front rest k =
    elim (dec_lt k (length xs)) [
      | yes l ↦ rw (get_or-append xs ys 0 k l) (front k)
      | no l ↦
          let e : length xs + (k - length xs) ≡ k = omega arith in
          subst (λ (m : ℕ). get_or (xs ++ ys) m 0 < 256) e (rw (get_or-append-add xs ys (k - length xs) 0) (rest (k - length xs)))
    ]

-- a number's bytes are bytes, in either order
pub number_bytes_small : (big : Bool) (n v : ℕ) → Bytes (bytes_in big n v)
unfolding bytes_in
number_bytes_small big zero v = none_bytes
number_bytes_small true (suc n) v =
    append_bytes (bytes_in true n (v / 256)) (v % 256 ∷ []) (number_bytes_small true n (v / 256)) (first_bytes (v % 256) [] (omega arith) none_bytes)
number_bytes_small false (suc n) v = first_bytes (v % 256) (bytes_in false n (v / 256)) (omega arith) (number_bytes_small false n (v / 256))

-- and so are those of a number after bytes
pub next_bytes : (ds : List ℕ) (big : Bool) (n v : ℕ) → Bytes ds → Bytes (ds ++ bytes_in big n v)
next_bytes ds big n v front = append_bytes ds (bytes_in big n v) front (number_bytes_small big n v)

pub laid_bytes : (ds xs : List ℕ) → Bytes ds → Bytes xs → Bytes (laid ds xs)
unfolding laid
laid_bytes ds xs front under =
    by_test Bytes (leb (length ds) (length xs)) (splice 0 ds xs) xs
    (λ e k.
    rw (get_d_splice 0 ds xs (omega (arith, leb-true (length ds) (length xs) e)) k)
    (by_test (λ (v : ℕ). v < 256) (leb 0 k && ltb k (0 + length ds)) (get_or ds (k - 0) 0) (get_or xs k 0) (λ t. front (k - 0)) (λ t. under k)))
    (λ e. under)
