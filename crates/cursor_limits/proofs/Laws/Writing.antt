-- What is written part by part is the spelling, written at once. Assumes nothing.
use Prim.Native.Nat.{ℕ, suc, ◌+◌, ◌-◌, ◌*◌, ◌≤◌, ◌<◌}
use mathlib.Core.Path.{◌≡◌, refl, sym, ap, ◌∙◌}
use mathlib.Core.List.{List, [], ◌∷◌, ◌++◌, append_assoc, append-nil}
use native.Mathlib.Omega.{arith}
use native.Mathlib.Numerals.{add-one}
use borrow.Rule.Slice.PartMut.{put_mid}
use lib.ListN.{length, get_or, take, drop, set, length-append, length-drop}
use lib.Seq.{drop-append_seam, drop-cons, drop-length, length-take-le}
use Rattle.wire.specs.Splice.{splice}
use Rattle.wire.specs.Laid.{laid}
use Rattle.wire.proofs.Laws.Laid.{laid_fits}
use Rattle.text.specs.Abnf.{space}
use Rattle.text.specs.Hex.{spell_digits}
use Rattle.text.proofs.Laws.Hex.{length_digits}
use Rattle.wire.proofs.Laws.Splice.{length_splice, splice_next, part_back}
use Rattle.cursor_limits.specs.declared.value.Xor.{Xor}
use Rattle.cursor_limits.specs.declared.value.Xor.TheVariants as xor
use Rattle.cursor_limits.specs.declared.value.Limits.{Limits}
use Rattle.cursor_limits.specs.Writing.{spell_xor, spell_field, spell_limits}

pub length_xor : (x : Xor) → length (spell_xor x) ≡ 4
length_xor xor.None = refl
length_xor xor.Full = refl

pub length_field : (v : ℕ) → length (spell_field v) ≡ 5
unfolding spell_field
length_field v = ap suc (length_digits 4 v)

pub length_limits : (l : Limits) → length (spell_limits l) ≡ 19
unfolding spell_limits
length_limits l =
    simp (length-append, length_xor l.xor, length_field l.width, length_field l.height, length_field l.port)

-- a space, and the digits in the part after it
pub field_written : (v : ℕ) (xs : List ℕ) → length xs ≡ 5 → put_mid 1 4 (set xs 0 space) (spell_digits 4 v) ≡ spell_field v
unfolding spell_field
field_written v [] h = absurd (let no : ⊥ = omega arith in no)
field_written v (x ∷ xs) h =
    let e : 4 ≡ length xs = omega arith in
    let rest : drop 4 xs ≡ [] = ap (λ (n : ℕ). drop n xs) e ∙ drop-length xs in
    ap (λ (l : List ℕ). space ∷ (spell_digits 4 v ++ l)) rest ∙ ap (λ (l : List ℕ). space ∷ l) (append-nil (spell_digits 4 v))

-- the fields of numbers, one right after the other
unfoldable pub spell_fields : List ℕ → List ℕ
spell_fields [] = []
spell_fields (v ∷ vs) = spell_field v ++ spell_fields vs

length_fields : (vs : List ℕ) → length (spell_fields vs) ≡ 5 * length vs
unfolding spell_fields
length_fields [] = refl
length_fields (v ∷ vs) = simp (length-append, length_field v, length_fields vs) (omega arith)

pub room_back
    : (at v : ℕ) (xs : List ℕ) → at + 5 ≤ length xs → 19 ≤ length xs → 19 ≤ length (put_mid at 5 xs (spell_field v))
room_back at v xs h room =
    let f = length_field v in
    rw (part_back at 5 xs (spell_field v) f, length_splice at (spell_field v) xs (omega arith)) room

-- the field of the number at i comes back, and the fields after it are left
pub field_back
    : (i : ℕ) (vs xs : List ℕ) {all : List ℕ} → i < length vs → 4 + 5 * length vs ≤ length xs
    → splice (4 + 5 * i) (spell_fields (drop i vs)) xs ≡ all
    → splice (4 + 5 * (i + 1)) (spell_fields (drop (i + 1) vs)) (put_mid (4 + 5 * i) 5 xs (spell_field (get_or vs i 0))) ≡ all
unfolding spell_fields
field_back i vs xs l h e =
    let v = get_or vs i 0 in
    let f = length_field v in
    let m : length (drop (suc i) vs) ≡ length vs - suc i = length-drop (suc i) vs in
    let r = length_fields (drop (suc i) vs) in
    let at : 4 + 5 * (i + 1) ≡ 4 + 5 * i + length (spell_field v) = omega arith in
    rw (
      part_back (4 + 5 * i) 5 xs (spell_field v) f,
      at,
      add-one,
      splice_next (4 + 5 * i) (spell_field v) (spell_fields (drop (suc i) vs)) xs (omega arith),
    ) (rw (drop-cons vs i 0 l) at e)

-- what stands after the first places stays when these are written
over_first : (x fs out : List ℕ) → length x + length fs ≤ length out → splice 0 x (splice (length x) fs out) ≡ splice 0 (x ++ fs) out
unfolding splice
over_first x fs out h =
    let front : length (take (length x) out) ≡ length x = length-take-le (length x) out (omega arith) in
    let rest = fs ++ drop (length x + length fs) out in
    let past : drop (length x) (take (length x) out ++ rest) ≡ rest
    = ap (λ (n : ℕ). drop n (take (length x) out ++ rest)) (sym front) ∙ drop-append_seam (take (length x) out) rest in
    let zero-on : 0 + length x ≡ length x = omega arith in
    let both : length x + length fs ≡ 0 + length (x ++ fs) = omega (arith, length-append x fs) in
    ap (λ (n : ℕ). x ++ drop n (take (length x) out ++ rest)) zero-on
    ∙ ap (λ (l : List ℕ). x ++ l) past
    ∙ sym (append_assoc x fs (drop (length x + length fs) out))
    ∙ ap (λ (n : ℕ). (x ++ fs) ++ drop n out) both

-- three fields, and the word right before them
pub limits_written
    : (l : Limits) (out : List ℕ) → 19 ≤ length out
    → laid (spell_xor l.xor) (splice 4 (spell_fields (l.width ∷ l.height ∷ l.port ∷ [])) out) ≡ laid (spell_limits l) out
unfolding spell_limits spell_fields
limits_written l out room =
    let x = spell_xor l.xor in
    let fs = spell_fields (l.width ∷ l.height ∷ l.port ∷ []) in
    let one : length x ≡ 4 = length_xor l.xor in
    let all : spell_limits l ≡ x ++ fs = simp append-nil in
    let n : length fs ≡ 15 = length_fields (l.width ∷ l.height ∷ l.port ∷ []) in
    let size = length_limits l in
    let same : length (splice 4 fs out) ≡ length out = length_splice 4 fs out (omega arith) in
    rw (laid_fits x (splice 4 fs out) (omega arith), laid_fits (spell_limits l) out (omega arith), all)
    (ap (λ (m : ℕ). splice 0 x (splice m fs out)) (sym one) ∙ over_first x fs out (omega arith))
