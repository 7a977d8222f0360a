-- Bytes and numbers written one right after the other, from the place `at` on, are laid together. Assumes nothing.
use Rattle.std.proofs.Common.{◌≡◌, ℕ, ◌+◌, ◌≤◌, Bool, List, [], ◌++◌, length, sym, ap, ◌∙◌, arith, length-append, le-leb}
use Rattle.wire.specs.Laid.{laid}
use Rattle.wire.specs.Number.{bytes_in, written_in}
use Rattle.wire.specs.Splice.{splice}
use Rattle.wire.proofs.Laws.Number.{length_bytes}
use Rattle.wire.proofs.Laws.Splice.{length_splice, splice_none, splice_next}

-- ys is xs with ds laid in the places from `at` to `to`; its numbers have the order `big`
pub record Written (big : Bool) (at to : ℕ) (ds xs ys : List ℕ) : Type 0 where
  pub all : ys ≡ splice at ds xs
  pub end : at + length ds ≡ to

pub none : (big : Bool) (at : ℕ) (xs : List ℕ) → Written big at at [] xs xs
none big at xs = record { all = sym (splice_none at xs); end = omega arith }

module _ {big : Bool} {at to : ℕ} {ds xs ys : List ℕ} (w : Written big at to ds xs ys) where
  -- bytes laid right after those that were laid are laid with them
  pub next_part : {zs : List ℕ} (es : List ℕ) (n : ℕ) → length es ≡ n → zs ≡ splice to es ys → to + n ≤ length xs → Written big at (to + n) (ds ++ es) xs zs
  next_part es n l e h =
      let d = w.end in
      record {
        all = e ∙ rw (w.all, sym w.end) (splice_next at ds es xs (omega arith));
        end = rw (length-append ds es) (omega arith);
      }

  -- so is a number
  pub next
      : {zs : List ℕ} (n v : ℕ) → zs ≡ written_in big n v to ys → to + n ≤ length xs
      → Written big at (to + n) (ds ++ bytes_in big n v) xs zs
  unfolding written_in
  next n v e h =
      let d = w.end in
      let l : length ys ≡ length xs = rw w.all (length_splice at ds xs (omega arith)) in
      next_part (bytes_in big n v) n (length_bytes big n v) (e ∙ simp (le-leb (to + n) (length ys) (omega arith))) h

  -- so is a number that comes in another form
  pub next_as
      : {zs : List ℕ} {u : ℕ} (n v : ℕ) → u ≡ v → zs ≡ written_in big n u to ys → to + n ≤ length xs
      → Written big at (to + n) (ds ++ bytes_in big n v) xs zs
  next_as n v same e h = next n v (e ∙ ap (λ (x : ℕ). written_in big n x to ys) same) h

-- where all is written, the record is laid
pub whole : {big : Bool} {to : ℕ} {ds xs ys : List ℕ} → Written big 0 to ds xs ys → to ≤ length xs → ys ≡ laid ds xs
unfolding laid
whole {to = to} {ds = ds} {xs = xs} w h = let d = w.end in simp (le-leb (length ds) (length xs) (omega arith)) w.all
