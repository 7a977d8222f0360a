-- The tests on words and digits are the rules of RFC 5234 for them. Assumes nothing.
use Prim.Native.Nat.{ℕ, zero, suc, ◌+◌, ◌-◌, ◌*◌, ◌/◌, ◌%◌, ◌^◌, ◌≤◌, ◌<◌}
use mathlib.Core.Path.{◌≡◌, refl, sym, ap, subst, ◌∙◌}
use mathlib.Core.List.{List, [], ◌∷◌, ◌++◌, map, map-append}
use mathlib.Core.Bool.{Bool, true, false, cond}
use native.Mathlib.Omega.{arith}
use native.Mathlib.Decide.{dec_lt}
use borrow.Author.Tests.{eq-eqb, eqb-true}
use lib.Dec.{eqb}
use lib.ListN.{length, get_or, take, length-append, get_or-append}
use lib.Seq.{get_or_at, take-length, take-suc}
use Rattle.std.proofs.Common.{Option, Some, None}
use Rattle.std.specs.Option.{is_some, unwrap_or}
use Rattle.wire.specs.Below.{all_below}
use Rattle.text.specs.Range.{within}
use Rattle.text.specs.Abnf.{Letter, small, capital, Quoted, no_letter, letter, HexDig, decimal, upper, lower, HexDigs, no_digit, digit}
use Rattle.text.specs.Hex.{digit_value, is_digit, number, read_digits, digit_of, spell_digits}
use Rattle.text.specs.Word.{lowered, same_letter, spells, raised}
use Rattle.wire.proofs.Laws.Below.{below_all, all_below_lem, computed}
use Rattle.wire.proofs.Laws.Bool.{impossible, both}
use Rattle.text.proofs.Laws.Range.{inside, below, above}
use Rattle.text.proofs.Laws.Hex.{decimal_value, upper_value, lower_value, no_value}

-- Words.

letter_lowered : {c b : ℕ} → Letter c b → lowered b ≡ c
unfolding lowered
letter_lowered (small k h) = simp (above 0x41 0x5A (97 + k) (omega arith))
letter_lowered (capital k h) = simp (inside 0x41 0x5A (65 + k) (omega arith) (omega arith)) (omega arith)

-- outside the capitals `lowered` changes nothing
low_same : (b : ℕ) → b < 65 → lowered b ≡ b
unfolding lowered
low_same b l = simp (below 0x41 0x5A b l)

high_same : (b : ℕ) → 90 < b → lowered b ≡ b
unfolding lowered
high_same b l = simp (above 0x41 0x5A b l)

capital_lowered : (b : ℕ) → 65 ≤ b → b ≤ 90 → lowered b ≡ b + 32
unfolding lowered
capital_lowered b l h = simp (inside 0x41 0x5A b l h)

letter_is : {c b : ℕ} (d a : ℕ) → Letter c b → c ≡ d → b ≡ a → Letter d a
letter_is {c} {b} d a l e f = subst (λ (x : ℕ). Letter x a) e (subst (λ (x : ℕ). Letter c x) f l)

lowered_letter : (c b : ℕ) → lowered b ≡ c → 97 ≤ c → c ≤ 122 → Letter c b
lowered_letter c b e l h = elim (dec_lt 90 b) [
  | yes u ↦ let f = high_same b u in letter_is c b (small (c - 97) (omega arith)) (omega arith) (omega arith)
  | no u ↦ elim (dec_lt b 65) [
    | yes d ↦ let f = low_same b d in absurd (let no : ⊥ = omega arith in no)
    | no d ↦
        let f = capital_lowered b (omega arith) (omega arith) in
        letter_is c b (capital (b - 65) (omega arith)) (omega arith) (omega arith)
  ]
]

pub quoted_length : {w s : List ℕ} → Quoted w s → length s ≡ length w
quoted_length no_letter = refl
quoted_length (letter l q) = ap suc (quoted_length q)

pub quoted_lowered : {w s : List ℕ} → Quoted w s → map lowered s ≡ w
quoted_lowered no_letter = refl
quoted_lowered (letter l q) = rw (letter_lowered l, quoted_lowered q)

pub quoted_at : {w s : List ℕ} → Quoted w s → (k : ℕ) → lowered (get_or s k 0) ≡ get_or w k 0
unfolding lowered within
quoted_at no_letter k = refl
quoted_at (letter l q) zero = letter_lowered l
quoted_at (letter l q) (suc k) = quoted_at q k

pub quoted_spells : {w s : List ℕ} → Quoted w s → spells w s ≡ true
unfolding spells same_letter
quoted_spells {w} {s} q =
    simp (
      eq-eqb (length s) (length w) (quoted_length q),
      all_below_lem (same_letter w s) (length w) (λ k l. eq-eqb (lowered (get_or s k 0)) (get_or w k 0) (quoted_at q k)),
    )

-- a word in small letters
abbrev pub IsSmall : List ℕ → Type 0
IsSmall w = (k : ℕ) → k < length w → (97 ≤ get_or w k 0) × (get_or w k 0 ≤ 122)

at_quoted
    : (w s : List ℕ) → IsSmall w → length s ≡ length w → ((k : ℕ) → k < length w → lowered (get_or s k 0) ≡ get_or w k 0) → Quoted w s
at_quoted [] [] m e f = no_letter
at_quoted [] (b ∷ s) m e f = absurd (let no : ⊥ = omega arith in no)
at_quoted (c ∷ w) [] m e f = absurd (let no : ⊥ = omega arith in no)
at_quoted (c ∷ w) (b ∷ s) m e f =
    letter (lowered_letter c b (f 0 (omega arith)) (m 0 (omega arith)).0 (m 0 (omega arith)).1)
    (at_quoted w s (λ k l. m (suc k) (omega arith)) (omega arith) (λ k l. f (suc k) (omega arith)))

pub spells_quoted : (w s : List ℕ) → IsSmall w → spells w s ≡ true → Quoted w s
unfolding spells same_letter
spells_quoted w s m e =
    let h = both (eqb (length s) (length w)) (all_below (length w) (same_letter w s)) e in
    at_quoted w s m (eqb-true (length s) (length w) h.0)
    (λ k l. eqb-true (lowered (get_or s k 0)) (get_or w k 0) (below_all (same_letter w s) (length w) h.1 k l))

-- Digits.

hexdig_value : {b d : ℕ} → HexDig b d → digit_value b ≡ Some d
hexdig_value (decimal d h) = decimal_value (48 + d) (omega arith) (omega arith) ∙ ap Some (omega arith)
hexdig_value (upper d h) = upper_value (65 + d) (omega arith) (omega arith) ∙ ap Some (omega arith)
hexdig_value (lower d h) = lower_value (97 + d) (omega arith) (omega arith) ∙ ap Some (omega arith)

hexdig_small : {b d : ℕ} → HexDig b d → d < 16
hexdig_small (decimal d h) = omega arith
hexdig_small (upper d h) = omega arith
hexdig_small (lower d h) = omega arith

hexdig_is : {b d : ℕ} (a e : ℕ) → HexDig b d → b ≡ a → d ≡ e → HexDig a e
hexdig_is {b} {d} a e x p q = subst (λ (y : ℕ). HexDig y e) p (subst (λ (y : ℕ). HexDig b y) q x)

value_hexdig : (b d : ℕ) → digit_value b ≡ Some d → HexDig b d
value_hexdig b d e = elim (dec_lt b 48) [
  | yes h ↦ none (below 0x30 0x39 b h) (below 0x41 0x46 b (omega arith)) (below 0x61 0x66 b (omega arith))
  | no h ↦ elim (dec_lt 57 b) [
    | no g ↦ let v = decimal_value b (omega arith) (omega arith) in hexdig_is b d (decimal (b - 48) (omega arith)) (omega arith) (same_value v e (omega arith))
    | yes g ↦ elim (dec_lt b 65) [
      | yes f ↦ none (above 0x30 0x39 b g) (below 0x41 0x46 b f) (below 0x61 0x66 b (omega arith))
      | no f ↦ elim (dec_lt 70 b) [
        | no j ↦ let v = upper_value b (omega arith) (omega arith) in hexdig_is b d (upper (b - 65) (omega arith)) (omega arith) (same_value v e (omega arith))
        | yes j ↦ elim (dec_lt b 97) [
          | yes i ↦ none (above 0x30 0x39 b g) (above 0x41 0x46 b j) (below 0x61 0x66 b i)
          | no i ↦ elim (dec_lt 102 b) [
            | no k ↦
                let v = lower_value b (omega arith) (omega arith) in hexdig_is b d (lower (b - 97) (omega arith)) (omega arith) (same_value v e (omega arith))
            | yes k ↦ none (above 0x30 0x39 b g) (above 0x41 0x46 b j) (above 0x61 0x66 b k)
          ]
        ]
      ]
    ]
  ]
]
  where
    none : within 0x30 0x39 b ≡ false → within 0x41 0x46 b ≡ false → within 0x61 0x66 b ≡ false → HexDig b d
    none p q r = let v = no_value b p q r in absurd (cc)

    same_value : {x y : ℕ} → digit_value b ≡ Some x → digit_value b ≡ Some d → y ≡ x → y ≡ d
    same_value v w q = let f : Some _ ≡ Some d = sym v ∙ w in cc

-- reading looks at the first n bytes alone
number_same : (n : ℕ) (s t : List ℕ) → ((k : ℕ) → k < n → get_or s k 0 ≡ get_or t k 0) → number n s ≡ number n t
unfolding number
number_same zero s t e = refl
number_same (suc n) s t e = rw (number_same n s t (λ k h. e k (omega arith)), e n (omega arith))

-- n digits of the grammar are n bytes, each a digit, and their number
record Digital (n : ℕ) (s : List ℕ) (v : ℕ) : Type 0 where
  size : length s ≡ n
  each : (k : ℕ) → k < n → is_digit s k ≡ true
  value : number n s ≡ v

hexdigs_digital : {n v : ℕ} {s : List ℕ} → HexDigs n s v → Digital n s v
unfolding number is_digit
hexdigs_digital no_digit = record { size = refl; each = λ k h. absurd (let no : ⊥ = omega arith in no); value = refl }
hexdigs_digital (digit {n} {v} {b} {d} {s} ds x) =
    let front = hexdigs_digital ds in
    let last : get_or (s ++ (b ∷ [])) n 0 ≡ b = get_or_at s b [] 0 n front.size in
    let same : (k : ℕ) → k < n → get_or (s ++ (b ∷ [])) k 0 ≡ get_or s k 0 = λ k h. get_or-append s (b ∷ []) 0 k (omega (arith, front.size)) in
    record {
      size = simp length-append (omega (arith, front.size));
      each = λ k h. elim (dec_lt k n) [
        | yes l ↦ rw (same k l) (front.each k l)
        | no l ↦
            let e : k ≡ n = omega arith in
            rw (e, last, hexdig_value x)
      ];
      value = rw (number_same n (s ++ (b ∷ [])) s same, front.value, last, hexdig_value x);
    }

some_of : (o : Option ℕ) → is_some o ≡ true → o ≡ Some (unwrap_or o 16)
some_of None e = cc
some_of (Some d) e = refl

digital_hexdigs : (n : ℕ) (s : List ℕ) → n ≤ length s → ((k : ℕ) → k < n → is_digit s k ≡ true) → HexDigs n (take n s) (number n s)
unfolding number is_digit
digital_hexdigs zero s h e = no_digit
digital_hexdigs (suc n) s h e =
    subst (λ (l : List ℕ). HexDigs (suc n) l (number (suc n) s)) (sym (take-suc s n 0 h))
    (digit (digital_hexdigs n s (omega arith) (λ k l. e k (omega arith))) (value_hexdig (get_or s n 0) _ (some_of (digit_value (get_or s n 0)) (e n (omega arith)))))

-- four digits of the grammar are what `read_digits` accepts of four bytes
pub hexdigs_read : {s : List ℕ} {v : ℕ} → HexDigs 4 s v → read_digits s ≡ Some v
unfolding read_digits is_digit
hexdigs_read {s} {v} ds =
    let d = hexdigs_digital ds in
    let each : all_below 4 (is_digit s) ≡ true = all_below_lem (is_digit s) 4 d.each in
    simp (d.size, each, d.value)

pub read_hexdigs : (s : List ℕ) (v : ℕ) → length s ≡ 4 → read_digits s ≡ Some v → HexDigs 4 s v
unfolding read_digits is_digit
read_hexdigs s v h e = go (all_below 4 (is_digit s)) refl (rw h at e)
  where
    go : (b : Bool) → all_below 4 (is_digit s) ≡ b → cond b (Some (number 4 s)) None ≡ Some v → HexDigs 4 s v
    go true t f =
        let n : number 4 s ≡ v = cc in
        let l : take 4 s ≡ s = rw (sym h) (take-length s) in
        subst (λ (u : ℕ). HexDigs 4 s u) n (subst (λ (u : List ℕ). HexDigs 4 u (number 4 s)) l
        (digital_hexdigs 4 s (omega arith) (below_all (is_digit s) 4 t)))
    go false t f = impossible (cc)

pub hexdigs_small : {n v : ℕ} {s : List ℕ} → HexDigs n s v → v < 16 ^ n
hexdigs_small no_digit = omega arith
hexdigs_small (digit ds x) = let front = hexdigs_small ds in let last = hexdig_small x in omega arith

pub hexdigs_length : {n v : ℕ} {s : List ℕ} → HexDigs n s v → length s ≡ n
hexdigs_length ds = (hexdigs_digital ds).size

-- the table's rule: the digit of each value has that value
digit_of_value : (d : ℕ) → d < 16 → digit_value (digit_of d) ≡ Some d
unfolding digit_value digit_of within all_below
digit_of_value d h =
    let v = digit_value (digit_of d) in
    some_of v (below_all (λ k. is_some (digit_value (digit_of k))) 16 refl d h) ∙ ap Some (computed 16 (λ k. unwrap_or (digit_value (digit_of k)) 16) (λ k. k) refl d h)

-- what is spelled are digits of the grammar
pub spelled_hexdigs : (n v : ℕ) → v < 16 ^ n → HexDigs n (spell_digits n v) v
unfolding spell_digits
spelled_hexdigs zero v h = let e : 0 ≡ v = omega arith in subst (λ (u : ℕ). HexDigs 0 [] u) e no_digit
spelled_hexdigs (suc n) v h =
    let e : 16 * (v / 16) + v % 16 ≡ v = omega arith in
    let small : v % 16 < 16 = omega arith in
    subst (λ (u : ℕ). HexDigs (suc n) (spell_digits (suc n) v) u) e
    (digit (spelled_hexdigs n (v / 16) (omega arith)) (value_hexdig (digit_of (v % 16)) (v % 16) (digit_of_value (v % 16) small)))

-- the digit of a value is that which was read, in capitals: the table's rule by the grammar's three ranges
hexdig_raised : {b d : ℕ} → HexDig b d → digit_of d ≡ raised b
unfolding digit_of raised within all_below
hexdig_raised (decimal d h) = computed 10 digit_of (λ i. raised (48 + i)) refl d h
hexdig_raised (upper d h) = computed 6 (λ i. digit_of (10 + i)) (λ i. raised (65 + i)) refl d h
hexdig_raised (lower d h) = computed 6 (λ i. digit_of (10 + i)) (λ i. raised (97 + i)) refl d h

pub hexdigs_raised : {n v : ℕ} {s : List ℕ} → HexDigs n s v → spell_digits n v ≡ map raised s
unfolding spell_digits
hexdigs_raised no_digit = refl
hexdigs_raised (digit {n} {v} {b} {d} {s} ds x) =
    let small = hexdig_small x in
    let front : (16 * v + d) / 16 ≡ v = omega arith in
    let last : (16 * v + d) % 16 ≡ d = omega arith in
    rw (front, last, hexdigs_raised ds, hexdig_raised x, map-append raised s (b ∷ []))
