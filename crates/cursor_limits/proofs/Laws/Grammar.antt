-- The grammar's two words: they are in small letters, and no bytes spell both. Assumes nothing.
use Prim.Native.Nat.{ℕ}
use mathlib.Core.Path.{◌≡◌, refl}
use mathlib.Core.List.{List}
use mathlib.Core.Bool.{false}
use native.Mathlib.Omega.{arith}
use lib.Dec.{eqb}
use lib.ListN.{length, get_or}
use Rattle.wire.specs.Below.{all_below}
use Rattle.wire.proofs.Laws.Below.{one_below, below_all}
use Rattle.wire.proofs.Laws.Bool.{and_false}
use Rattle.text.specs.Abnf.{Quoted}
use Rattle.text.specs.Range.{within}
use Rattle.text.specs.Word.{same_letter, spells}
use Rattle.text.proofs.Laws.Range.{within_true}
use Rattle.text.proofs.Laws.Abnf.{IsSmall, quoted_at}
use Rattle.cursor_limits.specs.Grammar.{none_word, full_word}

pub none_small : IsSmall none_word
unfolding within all_below
none_small k l = within_true 97 122 (get_or none_word k 0) (below_all (λ i. within 97 122 (get_or none_word i 0)) 4 refl k l)

pub full_small : IsSmall full_word
unfolding within all_below
full_small k l = within_true 97 122 (get_or full_word k 0) (below_all (λ i. within 97 122 (get_or full_word i 0)) 4 refl k l)

-- what spells "full" doesn't spell "none"
pub full_not_none : {s : List ℕ} → Quoted full_word s → spells none_word s ≡ false
unfolding spells same_letter
full_not_none {s} q =
    let first : same_letter none_word s 0 ≡ false = rw (quoted_at q 0) in
    rw (one_below (same_letter none_word s) 4 0 (omega arith) first) (and_false (eqb (length s) 4))
