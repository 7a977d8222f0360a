-- Parts of the buffer. Assumes nothing.
use Rattle.std.proofs.Common.{◌≡◌, ℕ, ◌≤◌, ltb, List, length, take, drop, ◌∙◌, ⊎_elim, arith, length-take, length-take-le, get_or-drop, get_or-take, take_at, ltb-false, ltb-true}
use borrow.Rule.Slice.PartMut.{put_mid}
use lib.ListN.{get_or-eq_default}
use Rattle.wire.specs.Number.{Bytes}
use Rattle.wire.proofs.Laws.Bool.{either}

-- a part of bytes is bytes
pub part_bytes : (s : List ℕ) (from n : ℕ) → Bytes s → Bytes (take n (drop from s))
part_bytes s from n b i =
    ⊎_elim
    (λ e. rw (get_or-take n (drop from s) i 0 (ltb-true i n e), get_or-drop from s i 0) (b _))
    (λ e.
    let l = ltb-false i n e in
    let short : length (take n (drop from s)) ≤ i = simp length-take (omega arith) in
    rw (get_or-eq_default (take n (drop from s)) 0 short) (omega arith))
    (either (ltb i n))

-- what is put after the front leaves it
pub front_kept
    : (ds : List ℕ) (at k n : ℕ) (xs ys : List ℕ) → at ≡ k → at ≤ length xs → take at xs ≡ take at ys → take k (put_mid at n xs ds) ≡ take k ys
front_kept ds at k n xs ys e h same = rw (← e) (take_at (take at xs) _ at (length-take-le at xs h) ∙ same)
