-- Laws of numbers in bytes, each over the order and the number of the bytes. Assumes nothing.
use Rattle.std.proofs.Common.{◌≡◌, ℕ, zero, suc, ◌+◌, ◌-◌, ◌*◌, ◌/◌, ◌%◌, ◌^◌, ◌<◌, ◌≤◌, Bool, true, false, List, [], ◌∷◌, length, get_or, take, drop, refl, ap, ◌∙◌, arith, length-append, length-drop, get_or-drop, drop-cons, take-suc, le-leb}
use lib.ListN.{get_or-append}
use lib.Seq.{get_or_at}
use Rattle.wire.specs.Splice.{splice}
use Rattle.wire.specs.Number.{low_at, rest_at, joined, number_in, bytes_in, written_in, Bytes, ReadsBack, WritesBack}
use Rattle.wire.proofs.Laws.Splice.{in_part}

-- reading looks at the n bytes alone
pub number_same
    : (big : Bool) (n : ℕ) (s t : List ℕ) (at to : ℕ) → ((k : ℕ) → k < n → get_or s (at + k) 0 ≡ get_or t (to + k) 0)
    → number_in big n s at ≡ number_in big n t to
unfolding number_in
number_same big zero s t at to e = refl
number_same true (suc n) s t at to e = rw (number_same true n s t at to (λ k h. e k (omega arith)), e n (omega arith))
number_same false (suc n) s t at to e =
    let here : at + 0 ≡ at = omega arith in
    let there : to + 0 ≡ to = omega arith in
    let first : get_or s at 0 ≡ get_or t to 0 = rw (here, there) at (e 0 (omega arith)) in
    let rest : number_in false n s (at + 1) ≡ number_in false n t (to + 1)
    = number_same false n s t (at + 1) (to + 1) (λ k h.
    let i : at + 1 + k ≡ at + suc k = omega arith in
    let j : to + 1 + k ≡ to + suc k = omega arith in
    rw (i, j) (e (suc k) (omega arith))) in
    rw (first, rest)

-- n bytes hold less than 256 to the n
pub number_small : (big : Bool) (n at : ℕ) (s : List ℕ) → Bytes s → number_in big n s at < 256 ^ n
unfolding number_in
number_small big zero at s small = omega arith
number_small big (suc n) at s small = omega (arith, number_small big n (rest_at big at) s small, small (low_at big n at))

length_joined : (big : Bool) (bs : List ℕ) (b : ℕ) → length (joined big bs b) ≡ suc (length bs)
length_joined true bs b = simp length-append (omega arith)
length_joined false bs b = refl

pub length_bytes : (big : Bool) (n v : ℕ) → length (bytes_in big n v) ≡ n
unfolding bytes_in
length_bytes big zero v = refl
length_bytes big (suc n) v = length_joined big (bytes_in big n (v / 256)) (v % 256) ∙ ap suc (length_bytes big n (v / 256))

-- of bytes that are joined, the least significant and the others stand in their places
low_joined : (big : Bool) (n : ℕ) (bs : List ℕ) (b : ℕ) → length bs ≡ n → get_or (joined big bs b) (low_at big n 0) 0 ≡ b
low_joined true n bs b e = get_or_at bs b [] 0 (0 + n) (omega arith)
low_joined false n bs b e = refl

rest_joined : (big : Bool) (n : ℕ) (bs : List ℕ) (b : ℕ) → length bs ≡ n → number_in big n (joined big bs b) (rest_at big 0) ≡ number_in big n bs 0
rest_joined true n bs b e = number_same true n _ bs 0 0 (λ k l. get_or-append bs (b ∷ []) 0 (0 + k) (omega arith))
rest_joined false n bs b e =
    number_same false n (b ∷ bs) bs (0 + 1) 0 (λ k l.
    let i : 0 + 1 + k ≡ suc k = omega arith in
    let j : 0 + k ≡ k = omega arith in
    rw (i, j))

-- the bytes of a number, read, are the number
pub number_bytes_lem : (big : Bool) (n v : ℕ) → v < 256 ^ n → number_in big n (bytes_in big n v) 0 ≡ v
unfolding number_in bytes_in
number_bytes_lem big zero v h = omega arith
number_bytes_lem big (suc n) v h =
    let bs = bytes_in big n (v / 256) in
    let e : length bs ≡ n = length_bytes big n (v / 256) in
    rw (rest_joined big n bs (v % 256) e, low_joined big n bs (v % 256) e, number_bytes_lem big n (v / 256) (omega arith)) (omega arith)

-- what is written reads back
pub reads_back : ReadsBack
unfolding written_in
reads_back big n v at xs h small =
    let e : length (bytes_in big n v) ≡ n = length_bytes big n v in
    simp (le-leb (at + n) (length xs) h)
    (number_same big n (splice at (bytes_in big n v) xs) (bytes_in big n v) at 0
    (λ k l.
    let i : at + k - at ≡ 0 + k = omega arith in
    in_part at (bytes_in big n v) xs (omega arith) (at + k) (omega arith) (omega arith) ∙ ap (λ (m : ℕ). get_or (bytes_in big n v) m 0) i)
    ∙ number_bytes_lem big n v small)

-- a part is its least significant byte joined to the others
part_joined
    : (big : Bool) (n at : ℕ) (s : List ℕ) → at + suc n ≤ length s
    → joined big (take n (drop (rest_at big at) s)) (get_or s (low_at big n at) 0) ≡ take (suc n) (drop at s)
part_joined true n at s h =
    let long : n < length (drop at s) = simp length-drop (omega arith) in
    rw (take-suc (drop at s) n 0 long, get_or-drop)
part_joined false n at s h = let i : at + 1 ≡ suc at = omega arith in rw (i, drop-cons s at 0 (omega arith))

rest_within : (big : Bool) (n at m : ℕ) → at + suc n ≤ m → rest_at big at + n ≤ m
rest_within true n at m h = omega arith
rest_within false n at m h = omega arith

-- what was read writes back, where every element is a byte
pub writes_back : WritesBack
unfolding bytes_in number_in
writes_back big zero at s h small = refl
writes_back big (suc n) at s h small =
    let b = get_or s (low_at big n at) 0 in
    let v = number_in big n s (rest_at big at) in
    let rest : (256 * v + b) / 256 ≡ v = omega (arith, small (low_at big n at)) in
    let low : (256 * v + b) % 256 ≡ b = omega (arith, small (low_at big n at)) in
    rw (rest, low, writes_back big n (rest_at big at) s (rest_within big n at (length s) h) small) (part_joined big n at s h)
