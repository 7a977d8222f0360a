-- Laws of `part` and `splice`. Assumes nothing.
use Rattle.std.proofs.Common.{◌≡◌, ℕ, suc, ◌+◌, ◌-◌, ◌<◌, ◌≤◌, cond, ◌&&◌, ltb, leb, List, [], ◌∷◌, ◌++◌, length, get_or, take, drop, set, sym, refl, ap, ◌∙◌, append_assoc, arith, length-append, length-drop, take-append-drop, length-take, length-take-le, get_or-drop, drop-cons, get_or-take, get_or-set_same, drop-drop, take_at, get_or-append-add, drop-set-lt, ext_get_or, drop_at, lt-length-set, le-ltb, lt-ltb, le-leb}
use native.Mathlib.Decide.{dec_lt}
use borrow.Author.Tests.{lt-leb}
use borrow.Rule.Slice.PartMut.{put_mid}
use lib.ListN.{get_or-append}
use lib.Seq.{take-set-le}
use Rattle.wire.specs.Splice.{part, splice}

pub length_part : (at n : ℕ) (xs : List ℕ) → at + n ≤ length xs → length (part at n xs) ≡ n
length_part at n xs h = simp (length-take, length-drop) (omega arith)

pub length_splice : (at : ℕ) (ds xs : List ℕ) → at + length ds ≤ length xs → length (splice at ds xs) ≡ length xs
unfolding splice
length_splice at ds xs h = simp (length-append, length-take, length-drop) (omega arith)

pub splice_none : (at : ℕ) (xs : List ℕ) → splice at [] xs ≡ xs
unfolding splice
splice_none at xs = let e : at + 0 ≡ at = omega arith in rw e (take-append-drop at xs)

-- the last of the bytes may be stored first
pub splice_snoc
    : (at : ℕ) (ds : List ℕ) (b : ℕ) (xs : List ℕ) → at + length ds < length xs
    → splice at (ds ++ (b ∷ [])) xs ≡ splice at ds (set xs (at + length ds) b)
unfolding splice
splice_snoc at ds b xs h =
    let i = at + length ds in
    let e : at + length (ds ++ (b ∷ [])) ≡ suc i = simp length-append (omega arith) in
    rw (e, append_assoc ds (b ∷ []) (drop (suc i) xs), take-set-le at xs i b (omega arith), drop-cons (set xs i b) i 0 (lt-length-set xs i b h), get_or-set_same xs i b 0 h, drop-set-lt (suc i) xs i b (omega arith))

-- a lent part of as many elements is back, with ds in its place
pub part_back : (at n : ℕ) (xs ds : List ℕ) → length ds ≡ n → put_mid at n xs ds ≡ splice at ds xs
unfolding splice
part_back at n xs ds e = rw (sym e, drop-drop)

-- what stands at the place and is as long as ds is ds
pub part_of_splice : (at : ℕ) (ds xs : List ℕ) → at ≤ length xs → take (length ds) (drop at (splice at ds xs)) ≡ ds
unfolding splice
part_of_splice at ds xs h =
    rw (drop_at (take at xs) (ds ++ drop (at + length ds) xs) at (length-take-le at xs h), take_at ds (drop (at + length ds) xs) (length ds) refl)

get_d_past : (xs ys : List ℕ) (i : ℕ) → length xs ≤ i → get_or (xs ++ ys) i 0 ≡ get_or ys (i - length xs) 0
get_d_past xs ys i h =
    let e : i ≡ length xs + (i - length xs) = omega arith in
    ap (λ (m : ℕ). get_or (xs ++ ys) m 0) e ∙ get_or-append-add xs ys (i - length xs) 0

-- the element at i: one of ds where i is in their range, else the former one
module _ (at : ℕ) (ds xs : List ℕ) (h : at + length ds ≤ length xs) (i : ℕ) where
  front : length (take at xs) ≡ at
  front = length-take-le at xs (omega arith)

  pub before_part : i < at → get_or (splice at ds xs) i 0 ≡ get_or xs i 0
  unfolding splice
  before_part l = let e = front in get_or-append (take at xs) _ 0 i (omega arith) ∙ get_or-take at xs i 0 l

  pub in_part : at ≤ i → i < at + length ds → get_or (splice at ds xs) i 0 ≡ get_or ds (i - at) 0
  unfolding splice
  in_part l u =
      let e = front in
      get_d_past (take at xs) (ds ++ drop (at + length ds) xs) i (omega arith)
      ∙ rw e (get_or-append ds _ 0 (i - at) (omega arith))

  pub after_part : at + length ds ≤ i → get_or (splice at ds xs) i 0 ≡ get_or xs i 0
  unfolding splice
  after_part l =
      let e = front in
      let k : (at + length ds) + ((i - at) - length ds) ≡ i = omega arith in
      get_d_past (take at xs) (ds ++ drop (at + length ds) xs) i (omega arith)
      ∙ rw e (get_d_past ds (drop (at + length ds) xs) (i - at) (omega arith))
      ∙ get_or-drop (at + length ds) xs ((i - at) - length ds) 0
      ∙ ap (λ (m : ℕ). get_or xs m 0) k

  pub get_d_splice : get_or (splice at ds xs) i 0 ≡ cond (leb at i && ltb i (at + length ds)) (get_or ds (i - at) 0) (get_or xs i 0)
  get_d_splice =
      elim (dec_lt i at) [
        | yes l ↦ simp (lt-leb at i l) (before_part l)
        | no l ↦ elim (dec_lt i (at + length ds)) [
          | yes u ↦ simp (le-leb at i (omega arith), lt-ltb i (at + length ds) u) (in_part (omega arith) u)
          | no u ↦ simp (le-leb at i (omega arith), le-ltb i (at + length ds) (omega arith)) (after_part (omega arith))
        ]
      ]

-- bytes laid right after others are laid with them
pub splice_next
    : (at : ℕ) (ds es xs : List ℕ) → at + length ds + length es ≤ length xs
    → splice (at + length ds) es (splice at ds xs) ≡ splice at (ds ++ es) xs
splice_next at ds es xs h =
    let l : length (ds ++ es) ≡ length ds + length es = length-append ds es in
    let one : length (splice at ds xs) ≡ length xs = length_splice at ds xs (omega arith) in
    let two : length (splice (at + length ds) es (splice at ds xs)) ≡ length (splice at ds xs) = length_splice (at + length ds) es (splice at ds xs) (omega arith) in
    let all : length (splice at (ds ++ es) xs) ≡ length xs = length_splice at (ds ++ es) xs (omega arith) in
    ext_get_or 0 _ _ (two ∙ one ∙ sym all) (λ i u. same i)
  where
    same : (i : ℕ) → get_or (splice (at + length ds) es (splice at ds xs)) i 0 ≡ get_or (splice at (ds ++ es) xs) i 0
    same i =
        let l : length (ds ++ es) ≡ length ds + length es = length-append ds es in
        let one : length (splice at ds xs) ≡ length xs = length_splice at ds xs (omega arith) in
        elim (dec_lt i at) [
          | yes a ↦ before_part (at + length ds) es _ (omega arith) i (omega arith) ∙ before_part at ds xs (omega arith) i a ∙ sym (before_part at (ds ++ es) xs (omega arith) i a)
          | no a ↦ elim (dec_lt i (at + length ds)) [
            | yes b ↦
                before_part (at + length ds) es _ (omega arith) i b ∙ in_part at ds xs (omega arith) i (omega arith) b
                ∙ sym (get_or-append ds es 0 (i - at) (omega arith)) ∙ sym (in_part at (ds ++ es) xs (omega arith) i (omega arith) (omega arith))
            | no b ↦ elim (dec_lt i (at + length ds + length es)) [
              | yes d ↦
                  let k : i - at - length ds ≡ i - (at + length ds) = omega arith in
                  in_part (at + length ds) es _ (omega arith) i (omega arith) d
                  ∙ sym (in_part at (ds ++ es) xs (omega arith) i (omega arith) (omega arith) ∙ get_d_past ds es (i - at) (omega arith) ∙ ap (λ (m : ℕ). get_or es m 0) k)
              | no d ↦
                  after_part (at + length ds) es _ (omega arith) i (omega arith) ∙ after_part at ds xs (omega arith) i (omega arith)
                  ∙ sym (after_part at (ds ++ es) xs (omega arith) i (omega arith))
            ]
          ]
        ]
