-- Two Source IDs of 16 bytes have the same bytes exactly where they are equal. Assumes nothing.
use Rattle.std.proofs.Common.{◌≡◌, ℕ, true, List, length, get_or, sym, refl, ◌∙◌, arith, eqb-true}
use Rattle.std.specs.Bool.{Decides}
use Rattle.std.specs.Str.{bytes_eq}
use Rattle.std.proofs.lemmas.Bool.Decides.{same_from_decides}
use Rattle.std.proofs.lemmas.List.{ext_get_or}
use Rattle.std.proofs.lemmas.Slice.Eq.{bytes_eq-Decides}
use borrow.Author.Tests.{eq-eqb}
use Rattle.wire.proofs.Laws.Below.{all_below_lem, below_all}
use Rattle.session_table.specs.Source.{same_at, same_bytes}

pub same_itself : (bs : List ℕ) → same_bytes bs bs ≡ true
unfolding same_bytes
same_itself bs = all_below_lem (same_at bs bs) 16 (λ k l. eq-eqb (get_or bs k 0) (get_or bs k 0) refl)

pub same_decides : (a b : List ℕ) → length a ≡ 16 → length b ≡ 16 → Decides (same_bytes a b) (a ≡ b)
unfolding same_bytes
same_decides a b l m = (
  λ e. ext_get_or 0 a b (l ∙ sym m) (λ i h. eqb-true (get_or a i 0) (get_or b i 0) (below_all (same_at a b) 16 e i (omega arith))),
  λ e. rw e (same_itself b),
)

-- so `==` of them tells it
pub same_compared : (a b : List ℕ) → length a ≡ 16 → length b ≡ 16 → bytes_eq a b ≡ same_bytes a b
same_compared a b l m = same_from_decides (bytes_eq a b) (same_bytes a b) (bytes_eq-Decides a b) (same_decides a b l m)
