-- Laws of `first_empty`. Assumes nothing.
use Rattle.std.proofs.Common.{◌≡◌, ℕ, zero, suc, ◌+◌, ◌≤◌, ◌<◌, List, [], ◌∷◌, true, false, eqb, length, drop, arith}
use Rattle.std.proofs.lemmas.List.Sums.{position_or_len_is}
use Rattle.scan.specs.Empty.{empty_at, first_empty}

-- it is k, where each place before is filled and the place there is empty, if there is one
pub first_is
    : (ms : List ℕ) (k : ℕ) → k ≤ length ms → ((j : ℕ) → j < k → empty_at ms j ≡ false) → (k < length ms → empty_at ms k ≡ true)
    → first_empty ms ≡ k
unfolding first_empty
first_is ms k l h e = position_or_len_is (λ m. eqb m 0) ms k 0 l h e

-- none is empty
pub first_none : (ms : List ℕ) → ((j : ℕ) → j < length ms → empty_at ms j ≡ false) → first_empty ms ≡ length ms
first_none ms h = first_is ms (length ms) (omega arith) h (λ l. absurd (omega arith))

-- where the places before `from` are filled it is the first empty one from there on
pub first_from : (ms : List ℕ) (from : ℕ) → from ≤ length ms → ((j : ℕ) → j < from → empty_at ms j ≡ false) → first_empty ms ≡ from + first_empty (drop from ms)
unfolding first_empty
first_from ms zero l h = grind arith
first_from [] (suc from) l h = absurd (omega arith)
first_from (m ∷ ms) (suc from) l h = let e : eqb m 0 ≡ false = h 0 (omega arith) in simp e (grind (arith, first_from ms from (omega arith) (λ j u. h (suc j) (omega arith))))

-- each place before the first empty one is filled
pub first_before : (ms : List ℕ) (j : ℕ) → j < first_empty ms → empty_at ms j ≡ false
unfolding first_empty
first_before [] j l = absurd (omega arith)
first_before (m ∷ ms) zero l = grind arith
first_before (m ∷ ms) (suc j) l = grind (arith, first_before ms j)
