-- The theorems on the cursor limits value: a string of the grammar is a word of four bytes and three fields of five. Assumes nothing.
use Prim.Native.Nat.{ℕ, suc}
use mathlib.Core.Path.{◌≡◌, refl, sym, ap, subst, ◌∙◌}
use mathlib.Core.List.{List, [], ◌∷◌, ◌++◌, map, map-append}
use mathlib.Core.Logic.{◌⊎◌, inl, inr, ⊎_elim}
use mathlib.Core.Bool.{Bool, true, false, cond}
use native.Mathlib.Omega.{arith}
use borrow.Author.Tests.{le-leb, lt-leb, eq-eqb, ne_eqb, eqb-true, leb-true}
use lib.Dec.{leb, eqb}
use lib.ListN.{length, get_or, take, drop, take-append-drop, length-append, length-drop}
use lib.Seq.{drop-cons, drop-drop, drop_at, take_at, take_all, drop-length}
use Rattle.std.proofs.Common.{Result, Ok, Err}
use Rattle.std.specs.Option.{ok_or, option_map}
use Rattle.wire.specs.declared.status.Refusal.TheVariants as refusal
use Rattle.wire.specs.declared.status.Refused.{Refused}
use Rattle.wire.specs.Status.{refused_at}
use Rattle.wire.specs.Numbered.{numbered}
use Rattle.wire.specs.Splice.{part}
use Rattle.wire.proofs.Laws.Splice.{length_part, part_of_splice}
use Rattle.std.proofs.Common.{Option, Some, None}
use Rattle.cursor_limits.specs.declared.value.Xor.{Xor}
use Rattle.cursor_limits.specs.declared.value.Xor.TheVariants as xor
use Rattle.cursor_limits.specs.declared.value.Limits.{Limits}
use Rattle.cursor_limits.specs.declared.value.Value.{Value}
use Rattle.cursor_limits.specs.declared.value.Value.TheVariants as value
use Rattle.text.specs.Abnf.{space, HexDigs}
use Rattle.cursor_limits.specs.Grammar.{none_word, full_word, XorSupport, xor_none, xor_full, SinkCursorCaps, caps, Means, not_supported, supported}
use Rattle.wire.specs.Below.{all_below}
use Rattle.text.specs.Range.{within}
use Rattle.text.specs.Hex.{read_digits}
use Rattle.wire.specs.Laid.{laid}
use Rattle.text.specs.Word.{lowered, same_letter, spells, raised}
use Rattle.cursor_limits.specs.Reading.{not_grammar, read_field, limits_of, read_limits, meaning, read_value}
use Rattle.cursor_limits.specs.Writing.{spell_xor, spell_field, spell_limits, spelling, write_answer}
use Rattle.cursor_limits.specs.Theorems.{AcceptsGrammar, RefusesTheRest, TenIfShort, OneMeaning, Sized, none_sized, limits_sized, ReadsBack, canonical, Canonical}
use Rattle.wire.proofs.Laws.Bool.{impossible}
use Rattle.text.proofs.Laws.Abnf.{quoted_length, quoted_lowered, quoted_spells, spells_quoted, hexdigs_length, hexdigs_read, read_hexdigs, hexdigs_small, spelled_hexdigs, hexdigs_raised}
use Rattle.cursor_limits.proofs.Laws.Grammar.{none_small, full_small, full_not_none}
use Rattle.wire.proofs.Laws.Laid.{laid_fits}

-- A string of the grammar is read as its meaning.

xor_length : {a : List ℕ} {x : Xor} → XorSupport a x → length a ≡ 4
xor_length (xor_none q) = quoted_length q
xor_length (xor_full q) = quoted_length q

-- the parts of a string of 19 bytes, and its length
module _ (a b c d : List ℕ) (p : length a ≡ 4) (q : length b ≡ 4) (r : length c ≡ 4) (t : length d ≡ 4) where
  abbrev whole : List ℕ
  whole = a ++ (space ∷ (b ++ (space ∷ (c ++ (space ∷ d)))))

  whole_length : length whole ≡ 19
  whole_length = simp (length-append, p, q, r, t)

  whole_word : take 4 whole ≡ a
  whole_word = take_at a _ 4 p

  after_word : drop 4 whole ≡ (space ∷ b) ++ ((space ∷ c) ++ (space ∷ d))
  after_word = drop_at a _ 4 p

  after_width : drop 9 whole ≡ (space ∷ c) ++ (space ∷ d)
  after_width = sym (drop-drop 5 4 whole) ∙ ap (drop 5) after_word ∙ drop_at (space ∷ b) _ 5 (ap suc q)

  after_height : drop 14 whole ≡ space ∷ d
  after_height = sym (drop-drop 5 9 whole) ∙ ap (drop 5) after_width ∙ drop_at (space ∷ c) _ 5 (ap suc r)

  whole_width : part 4 5 whole ≡ space ∷ b
  whole_width = ap (take 5) after_word ∙ take_at (space ∷ b) _ 5 (ap suc q)

  whole_height : part 9 5 whole ≡ space ∷ c
  whole_height = ap (take 5) after_width ∙ take_at (space ∷ c) _ 5 (ap suc r)

  whole_port : part 14 5 whole ≡ space ∷ d
  whole_port = ap (take 5) after_height ∙ take_all 5 (space ∷ d) (omega arith)

other_length : (w s : List ℕ) → (length s ≡ length w → ⊥) → spells w s ≡ false
unfolding spells
other_length w s n = simp (ne_eqb (length s) (length w) n)

field_read : {b : List ℕ} {v : ℕ} → HexDigs 4 b v → read_field (space ∷ b) ≡ Some v
unfolding read_field
field_read ds = hexdigs_read ds

-- nineteen bytes that begin with a word for the xor support are read as limits
word_read : (s a : List ℕ) {x : Xor} → XorSupport a x → take 4 s ≡ a → length s ≡ 19 → meaning s ≡ option_map value.Supported (read_limits x s)
unfolding meaning
word_read s a (xor_none q) e n =
    simp (other_length none_word s (λ f. omega arith), eq-eqb (length s) 19 n, e, quoted_spells q)
word_read s a (xor_full q) e n =
    simp (other_length none_word s (λ f. omega arith), eq-eqb (length s) 19 n, e, full_not_none q, quoted_spells q)

caps_read : {s : List ℕ} {l : Limits} → SinkCursorCaps s l → meaning s ≡ Some (value.Supported l)
unfolding read_limits
caps_read (caps {a} {b} {c} {d} {x} xs ws hs ps) =
    let p = xor_length xs in
    let q = hexdigs_length ws in
    let r = hexdigs_length hs in
    let t = hexdigs_length ps in
    word_read (whole a b c d p q r t) a xs (whole_word a b c d p q r t) (whole_length a b c d p q r t)
    ∙ rw (whole_width a b c d p q r t, whole_height a b c d p q r t, whole_port a b c d p q r t, field_read ws, field_read hs, field_read ps)

has_meaning : {s : List ℕ} {v : Value} → Means s v → meaning s ≡ Some v
unfolding meaning
has_meaning (not_supported q) = simp (quoted_spells q)
has_meaning (supported cs) = caps_read cs

means_read : {s : List ℕ} {v : Value} → Means s v → read_value s ≡ Ok v
unfolding read_value
means_read m = rw (has_meaning m)

-- What is read is a string of the grammar.

field_means : (t : List ℕ) (v : ℕ) → length t ≡ 5 → read_field t ≡ Some v → (t ≡ space ∷ drop 1 t) × HexDigs 4 (drop 1 t) v
unfolding read_field
field_means t v n e = go (eqb (get_or t 0 0) space) refl e
  where
    go
        : (b : Bool) → eqb (get_or t 0 0) space ≡ b → cond b (read_digits (drop 1 t)) None ≡ Some v
        → (t ≡ space ∷ drop 1 t) × HexDigs 4 (drop 1 t) v
    go true h f =
        let first : get_or t 0 0 ≡ space = eqb-true (get_or t 0 0) space h in
        (drop-cons t 0 0 (omega arith) ∙ rw first, read_hexdigs (drop 1 t) v (length-drop 1 t ∙ omega arith) f)
    go false h f = impossible (cc)

parts : (s : List ℕ) → length s ≡ 19 → s ≡ take 4 s ++ (part 4 5 s ++ (part 9 5 s ++ part 14 5 s))
parts s n =
    let rest : length (drop 14 s) ≡ 5 = length-drop 14 s ∙ omega arith in
    let third : drop 14 s ≡ part 14 5 s = sym (take_all 5 (drop 14 s) (omega arith)) in
    let second : drop 9 s ≡ part 9 5 s ++ part 14 5 s
    = sym (take-append-drop 5 (drop 9 s)) ∙ ap (λ (l : List ℕ). part 9 5 s ++ l) (drop-drop 5 9 s ∙ third) in
    let first : drop 4 s ≡ part 4 5 s ++ (part 9 5 s ++ part 14 5 s)
    = sym (take-append-drop 5 (drop 4 s)) ∙ ap (λ (l : List ℕ). part 4 5 s ++ l) (drop-drop 5 4 s ∙ second) in
    sym (take-append-drop 4 s) ∙ ap (λ (l : List ℕ). take 4 s ++ l) first

spaced
    : (a t u w : List ℕ) → t ≡ space ∷ drop 1 t → u ≡ space ∷ drop 1 u → w ≡ space ∷ drop 1 w
    → a ++ (t ++ (u ++ w)) ≡ a ++ (space ∷ (drop 1 t ++ (space ∷ (drop 1 u ++ (space ∷ drop 1 w)))))
spaced a t u w e f g =
    ap (λ (l : List ℕ). a ++ (l ++ (u ++ w))) e ∙ ap (λ (l : List ℕ). a ++ ((space ∷ drop 1 t) ++ (l ++ w))) f
    ∙ ap (λ (l : List ℕ). a ++ ((space ∷ drop 1 t) ++ ((space ∷ drop 1 u) ++ l))) g

limits_means : (x : Xor) (s : List ℕ) (l : Limits) → length s ≡ 19 → XorSupport (take 4 s) x → read_limits x s ≡ Some l → Means s (value.Supported l)
unfolding read_limits
limits_means x s l n xs e = go (read_field (part 4 5 s)) (read_field (part 9 5 s)) (read_field (part 14 5 s)) refl refl refl e
  where
    go
        : (i j k : Option ℕ) → read_field (part 4 5 s) ≡ i → read_field (part 9 5 s) ≡ j → read_field (part 14 5 s) ≡ k
        → limits_of x i j k ≡ Some l → Means s (value.Supported l)
    go None j k p q r f = impossible (cc)
    go (Some w) None k p q r f = impossible (cc)
    go (Some w) (Some h) None p q r f = impossible (cc)
    go (Some w) (Some h) (Some o) p q r f =
        let width = field_means (part 4 5 s) w (length_part 4 5 s (omega arith)) p in
        let height = field_means (part 9 5 s) h (length_part 9 5 s (omega arith)) q in
        let port = field_means (part 14 5 s) o (length_part 14 5 s (omega arith)) r in
        let all = parts s n ∙ spaced (take 4 s) (part 4 5 s) (part 9 5 s) (part 14 5 s) width.0 height.0 port.0 in
        let found : Limits = record { xor = x; width = w; height = h; port = o } in
        let is : found ≡ l = cc in
        subst (λ (m : Limits). Means s (value.Supported m)) is
        (subst (λ (t : List ℕ). Means t (value.Supported found)) (sym all) (supported (caps xs width.1 height.1 port.1)))

-- the meaning by what its four tests say
abbrev chosen : Bool → Bool → Bool → Bool → List ℕ → Option Value
chosen a b c d s =
    cond a (Some value.NotSupported)
    (cond b
    (cond c (option_map value.Supported (read_limits xor.None s)) (cond d (option_map value.Supported (read_limits xor.Full s)) None))
    None)

meaning_means : (s : List ℕ) (v : Value) → meaning s ≡ Some v → Means s v
unfolding meaning
meaning_means s v e =
    go (spells none_word s) (eqb (length s) 19) (spells none_word (take 4 s)) (spells full_word (take 4 s)) refl refl refl refl e
  where
    by_limits
        : (x : Xor) (o : Option Limits) → length s ≡ 19 → XorSupport (take 4 s) x → read_limits x s ≡ o → option_map value.Supported o ≡ Some v → Means s v
    by_limits x None n xs p f = impossible (cc)
    by_limits x (Some l) n xs p f = let is : value.Supported l ≡ v = cc in subst (λ (u : Value). Means s u) is (limits_means x s l n xs p)

    go
        : (a b c d : Bool) → spells none_word s ≡ a → eqb (length s) 19 ≡ b → spells none_word (take 4 s) ≡ c → spells full_word (take 4 s) ≡ d
        → chosen a b c d s ≡ Some v → Means s v
    go true b c d p q r t f =
        let is : value.NotSupported ≡ v = cc in
        subst (λ (u : Value). Means s u) is (not_supported (spells_quoted none_word s none_small p))
    go false true true d p q r t f =
        by_limits xor.None (read_limits xor.None s) (eqb-true (length s) 19 q) (xor_none (spells_quoted none_word (take 4 s) none_small r)) refl f
    go false true false true p q r t f =
        by_limits xor.Full (read_limits xor.Full s) (eqb-true (length s) 19 q) (xor_full (spells_quoted full_word (take 4 s) full_small t)) refl f
    go false true false false p q r t f = impossible (cc)
    go false false c d p q r t f = impossible (cc)

read_means : (s : List ℕ) (v : Value) → read_value s ≡ Ok v → Means s v
unfolding read_value
read_means s v e = meaning_means s v (some_from (meaning s) e)
  where
    some_from : (o : Option Value) → ok_or o (refused_at refusal.NotGrammar 0) ≡ Ok v → o ≡ Some v
    some_from None f = impossible (cc)
    some_from (Some u) f = cc

pub accepts_grammar : AcceptsGrammar
unfolding AcceptsGrammar
accepts_grammar s v = (means_read, read_means s v)

pub one_meaning : OneMeaning
unfolding OneMeaning
one_meaning s v w m n = let e = means_read m in let f = means_read n in cc

-- Reading answers a record or 16.

decided : (s : List ℕ) → ((v : Value) × (read_value s ≡ Ok v)) ⊎ (read_value s ≡ not_grammar)
unfolding read_value
decided s = go (meaning s)
  where
    go
        : (o : Option Value)
        → ((v : Value) × (ok_or o (refused_at refusal.NotGrammar 0) ≡ Ok v)) ⊎ (ok_or o (refused_at refusal.NotGrammar 0) ≡ not_grammar)
    go None = inr refl
    go (Some v) = inl (v, refl)

pub refuses_the_rest : RefusesTheRest
unfolding RefusesTheRest
refuses_the_rest s = (
  λ none. ⊎_elim (λ w. absurd (none w.0 (read_means s w.0 w.1))) (λ e. ap numbered e) (decided s),
  λ e v m. let f : (numbered (read_value s)).number ≡ 0 = ap (λ (a : Result Value Refused). (numbered a).number) (means_read m) in (let no : ⊥ = omega arith in no),
)

pub ten_if_short : TenIfShort
unfolding TenIfShort write_answer
ten_if_short v room = (
  λ l. simp (lt-leb (length (spelling v)) room l),
  λ l. simp (le-leb (length (spelling v)) room l),
)

-- What is written reads back.

quoted_itself : (x : Xor) → XorSupport (spell_xor x) x
unfolding spells same_letter lowered within all_below
quoted_itself xor.None = xor_none (spells_quoted none_word none_word none_small refl)
quoted_itself xor.Full = xor_full (spells_quoted full_word full_word full_small refl)

spelling_means : {v : Value} → Sized v → Means (spelling v) v
unfolding spell_limits spell_field spells same_letter lowered within all_below
spelling_means none_sized = not_supported (spells_quoted none_word none_word none_small refl)
spelling_means (limits_sized {l} w h p) =
    supported (caps (quoted_itself l.xor) (spelled_hexdigs 4 l.width w) (spelled_hexdigs 4 l.height h) (spelled_hexdigs 4 l.port p))

-- a writer that answers n has laid down a spelling of n bytes
spelled_out
    : (v : Value) (out : List ℕ) (n : ℕ) → write_answer v (length out) ≡ Ok n
    → take n (laid (spelling v) out) ≡ spelling v
unfolding write_answer
spelled_out v out n e = go (leb (length (spelling v)) (length out)) refl e
  where
    go
        : (b : Bool) → leb (length (spelling v)) (length out) ≡ b
        → cond b (Ok (length (spelling v))) (Err (refused_at refusal.NoRoom 0)) ≡ Ok n
        → take n (laid (spelling v) out) ≡ spelling v
    go true h f =
        let size : length (spelling v) ≡ n = cc in
        rw (
          sym size,
          laid_fits (spelling v) out (leb-true (length (spelling v)) (length out) h),
        ) (part_of_splice 0 (spelling v) out (omega arith))
    go false h f = impossible (cc)

pub reads_back : ReadsBack
unfolding ReadsBack
reads_back v out n sized e = rw (spelled_out v out n e) (means_read (spelling_means sized))

-- Reading and writing give the canonical spelling.

means_sized : {s : List ℕ} {v : Value} → Means s v → Sized v
means_sized (not_supported q) = none_sized
means_sized (supported (caps xs ws hs ps)) = limits_sized (hexdigs_small ws) (hexdigs_small hs) (hexdigs_small ps)

xor_lowered : {a : List ℕ} {x : Xor} → XorSupport a x → spell_xor x ≡ map lowered a
xor_lowered (xor_none q) = sym (quoted_lowered q)
xor_lowered (xor_full q) = sym (quoted_lowered q)

field_raised : {b : List ℕ} {v : ℕ} → HexDigs 4 b v → spell_field v ≡ map raised (space ∷ b)
unfolding spell_field raised within
field_raised ds = ap (λ (l : List ℕ). space ∷ l) (hexdigs_raised ds)

means_canonical : {s : List ℕ} {v : Value} → Means s v → spelling v ≡ canonical s
unfolding canonical spell_limits
means_canonical (not_supported {s} q) =
    let n : length s ≡ 4 = quoted_length q in
    let none : drop 4 s ≡ [] = ap (λ (m : ℕ). drop m s) (sym n) ∙ drop-length s in
    rw (take_all 4 s (omega arith), none, quoted_lowered q)
means_canonical (supported (caps {a} {b} {c} {d} xs ws hs ps)) =
    let p = xor_length xs in
    let q = hexdigs_length ws in
    let r = hexdigs_length hs in
    let t = hexdigs_length ps in
    rw (
      whole_word a b c d p q r t,
      after_word a b c d p q r t,
      map-append raised (space ∷ b) ((space ∷ c) ++ (space ∷ d)),
      map-append raised (space ∷ c) (space ∷ d),
      xor_lowered xs,
      field_raised ws,
      field_raised hs,
      field_raised ps,
    )

pub canonical_spelling : Canonical
unfolding Canonical
canonical_spelling s v e =
    let m = read_means s v e in
    (means_sized m, means_canonical m, spelling_means (means_sized m))
