-- Laws of the loops that read and write a number byte by byte: the m least significant of its n bytes are still to be read, or are
-- written, and the others stand together. Assumes nothing.
use Rattle.std.proofs.Common.{◌≡◌, ℕ, zero, suc, ◌+◌, ◌-◌, ◌*◌, ◌/◌, ◌%◌, ◌^◌, ◌<◌, ◌≤◌, Bool, true, false, cond, List, [], ◌∷◌, length, get_or, set, sym, refl, ap, ◌∙◌, subst, add-one, arith, length-set, pow-add, le-leb}
use native.Mathlib.Nat.{pow-le-pow_right}
use borrow.Author.Tests.{lt-leb}
use Rattle.wire.specs.Splice.{splice}
use Rattle.wire.specs.Number.{low_at, rest_at, joined, number_in, bytes_in, written_in}
use Rattle.wire.proofs.Laws.Number.{length_bytes}
use Rattle.wire.proofs.Laws.Splice.{splice_none, splice_snoc, splice_next}

-- where the other bytes begin
abbrev pub others_at : Bool → ℕ → ℕ → ℕ
others_at big m at = cond big at (at + m)

-- the place of byte k of n, counted from the most significant
abbrev pub place : Bool → ℕ → ℕ → ℕ
place big n k = cond big k (n - 1 - k)

-- byte k is the least significant of the first k + 1
rest_others : (big : Bool) (n k at : ℕ) → k < n → rest_at big (others_at big (n - suc k) at) ≡ others_at big (n - k) at
rest_others true n k at h = refl
rest_others false n k at h = omega arith

low_others : (big : Bool) (n k at : ℕ) → k < n → low_at big k (others_at big (n - suc k) at) ≡ at + place big n k
low_others true n k at h = refl
low_others false n k at h = omega arith

all_others : (big : Bool) (m at : ℕ) → m ≡ 0 → others_at big m at ≡ at
all_others true m at z = refl
all_others false m at z = omega arith

-- ---- reading, the most significant byte first

-- v is the number in the first k of n bytes
pub record Read (big : Bool) (s : List ℕ) (at n k v : ℕ) : Type 0 where
  pub some : k ≤ n
  pub value : v ≡ number_in big k s (others_at big (n - k) at)
  pub small : v < 256 ^ k

pub none_read : (big : Bool) (s : List ℕ) (at n : ℕ) → Read big s at n 0 0
unfolding number_in
none_read big s at n = record { some = omega arith; value = refl; small = omega arith }

module _ {big : Bool} {s : List ℕ} {at n k v : ℕ} (r : Read big s at n k v) where
  next_small : (b : ℕ) → b < 256 → 256 * v + b < 256 ^ (k + 1)
  next_small b q = let p = r.small in rw (pow-add 256 k 1) (omega arith)

  -- four bytes or fewer fit in 32 bits
  pub one_fits : (b : ℕ) → b < 256 → k < n → n ≤ 4 → 256 * v + b < 4294967296
  one_fits b q l h =
      let up : 256 ^ (k + 1) ≤ 256 ^ 4 = pow-le-pow_right (omega arith) {i = k + 1} {j = 4} (omega arith) in
      omega (arith, next_small b q)

  -- byte k is read next
  next_value : (b : ℕ) → b ≡ get_or s (at + place big n k) 0 → k < n → 256 * v + b ≡ number_in big (k + 1) s (others_at big (n - (k + 1)) at)
  unfolding number_in
  next_value b e l = rw (add-one, rest_others big n k at l, low_others big n k at l, sym r.value, sym e)

  pub one_read : (b : ℕ) → b ≡ get_or s (at + place big n k) 0 → b < 256 → k < n → Read big s at n (k + 1) (256 * v + b)
  one_read b e q l = record { some = omega arith; value = next_value b e l; small = next_small b q }

  -- at last all are
  pub all_read : k ≡ n → (v ≡ number_in big n s at) × (v < 256 ^ n)
  all_read e =
      (r.value ∙ rw (all_others big (n - k) at (omega arith)) (ap (λ (m : ℕ). number_in big m s at) e), subst (λ (m : ℕ). v < 256 ^ m) e r.small)

-- ---- writing, the least significant byte first

-- one byte laid is one place set
one_laid : (at b : ℕ) (xs : List ℕ) → at < length xs → splice at (b ∷ []) xs ≡ set xs at b
one_laid at b xs h =
    let e : at + 0 ≡ at = omega arith in
    splice_snoc at [] b xs (omega arith) ∙ splice_none at (set xs (at + 0) b) ∙ ap (λ (i : ℕ). set xs i b) e

-- of bytes that are laid, the least significant may be set first
splice_joined
    : (big : Bool) (at n : ℕ) (bs : List ℕ) (b : ℕ) (xs : List ℕ) → length bs ≡ n → at + suc n ≤ length xs
    → splice at (joined big bs b) xs ≡ splice (rest_at big at) bs (set xs (low_at big n at) b)
splice_joined true at n bs b xs e h = splice_snoc at bs b xs (omega arith) ∙ rw e
splice_joined false at n bs b xs e h = rw (sym (one_laid at b xs (omega arith))) (sym (splice_next at (b ∷ []) bs xs (omega arith)))

others_within : (big : Bool) (n k at m : ℕ) → k < n → at + n ≤ m → others_at big (n - suc k) at + suc k ≤ m
others_within true n k at m l h = omega arith
others_within false n k at m l h = omega arith

-- What is still to be written on the bytes ys as they are, the first k of n bytes, gives what was to be written on xs at first.
pub record Wrote (big : Bool) (at n v : ℕ) (xs : List ℕ) (k rest : ℕ) (ys : List ℕ) : Type 0 where
  pub some : k ≤ n
  pub length_same : length ys ≡ length xs
  pub left : splice (others_at big (n - k) at) (bytes_in big k rest) ys ≡ splice at (bytes_in big n v) xs

pub none_wrote : (big : Bool) (at n v : ℕ) (xs : List ℕ) → Wrote big at n v xs n v xs
none_wrote big at n v xs =
    record { some = omega arith; length_same = refl; left = rw (all_others big (n - n) at (omega arith)) }

pub one_wrote
    : (big : Bool) (at n v : ℕ) (xs : List ℕ) (k rest : ℕ) (ys : List ℕ) → Wrote big at n v xs k rest ys → 0 < k → at + n ≤ length xs
    → Wrote big at n v xs (k - 1) (rest / 256) (set ys (at + place big n (k - 1)) (rest % 256))
unfolding bytes_in
one_wrote big at n v xs zero rest ys w l h = absurd (let no : ⊥ = omega arith in no)
one_wrote big at n v xs (suc k) rest ys w l h =
    let below = w.some in
    let same = w.length_same in
    let e : suc k - 1 ≡ k = omega arith in
    let to = others_at big (n - suc k) at in
    let turn = splice_joined big to k (bytes_in big k (rest / 256)) (rest % 256) ys (length_bytes big k (rest / 256)) (others_within big n k at (length ys) (omega arith) (omega arith)) in
    rw e
    (record {
      some = omega arith;
      length_same = simp length-set same;
      left = rw (sym (rest_others big n k at (omega arith)), sym (low_others big n k at (omega arith))) (sym turn ∙ w.left);
    })

-- at last all is written
pub all_wrote
    : (big : Bool) (at n v : ℕ) (xs : List ℕ) (k rest : ℕ) (ys : List ℕ) → Wrote big at n v xs k rest ys → k ≡ 0 → at + n ≤ length xs
    → ys ≡ written_in big n v at xs
unfolding written_in bytes_in
all_wrote big at n v xs k rest ys w z h =
    simp (le-leb (at + n) (length xs) h) (sym (splice_none (others_at big (n - k) at) ys) ∙ ap (λ (m : ℕ). splice (others_at big (n - k) at) (bytes_in big m rest) ys) (sym z) ∙ w.left)

-- where the bytes don't fit, none is
pub refused : (big : Bool) (at n v : ℕ) (xs : List ℕ) → length xs < at + n → xs ≡ written_in big n v at xs
unfolding written_in
refused big at n v xs h = simp (lt-leb (at + n) (length xs) h)
