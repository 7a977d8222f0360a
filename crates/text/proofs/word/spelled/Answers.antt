-- Each byte is compared with the word's. Assumes nothing.
use Rattle.std.proofs.Common.{◌≡◌, ℕ, zero, suc, List, [], ◌∷◌, Bool, true, false, ◌&&◌, eqb, length, refl, sym, ap, ◌∙◌, arith, rules}
use Rattle.std.specs.List.{list_all, zip}
use Rattle.std.proofs.lemmas.Iterator.{YieldsList-from_slice, YieldsList-from_zip}
use Rattle.std.proofs.lemmas.Iterator.Search.{all_from_yields_List}
use borrow.Author.Tests.{tests, eq-eqb, ne_eqb}
use Rattle.wire.specs.Below.{all_below}
use Rattle.text.specs.Word.{lowered, same_letter, spells}
use Rattle.text.proofs.word.spelled.Goals as goal

-- the first number first
all_first : (n : ℕ) (p : ℕ → Bool) → all_below (suc n) p ≡ (p 0 && all_below n (λ k. p (suc k)))
unfolding all_below
all_first zero p = none (p 0)
  where
    none : (a : Bool) → a ≡ (a && true)
    none true = refl
    none false = refl
all_first (suc n) p = ap (λ (b : Bool). b && p (suc n)) (all_first n p) ∙ group (p 0) (all_below n (λ k. p (suc k))) (p (suc n))
  where
    group : (a b c : Bool) → ((a && b) && c) ≡ (a && (b && c))
    group true b c = refl
    group false b c = refl

by_pairs : (s w : List ℕ) → length s ≡ length w → list_all (λ p. eqb (lowered p.0) p.1) (zip s w) ≡ all_below (length w) (same_letter w s)
unfolding all_below same_letter
by_pairs [] [] e = refl
by_pairs [] (c ∷ w) e = absurd (omega arith)
by_pairs (b ∷ s) [] e = absurd (omega arith)
by_pairs (b ∷ s) (c ∷ w) e = ap (λ (r : Bool). eqb (lowered b) c && r) (by_pairs s w (omega arith)) ∙ sym (all_first (length w) (same_letter (c ∷ w) (b ∷ s)))

pub returns-then-bytes-word : goal.returns-then-bytes-word
unfolding spells
returns-then-bytes-word c =
    let s = c.args.bytes.now in
    let w = c.args.word.now in
    let found
    = all_from_yields_List (λ p. eqb (lowered p.0) p.1) c.all.new.self _ c.all.result c.all.ensures.ran (YieldsList-from_zip (YieldsList-from_slice s (search rules)) (YieldsList-from_slice w (search rules))) (λ x b q k. search (rules, tests)) in
    found ∙ by_pairs s w c.if-bytes-word.true ∙ simp (eq-eqb (length s) (length w) c.if-bytes-word.true)

pub returns-else-bytes-word : goal.returns-else-bytes-word
unfolding spells
returns-else-bytes-word c = simp (ne_eqb (length c.args.bytes.now) (length c.args.word.now) c.if-bytes-word.false)
