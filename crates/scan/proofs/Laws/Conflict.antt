-- Places that can't conflict. Assumes nothing.
use Rattle.std.proofs.Common.{◌≡◌, ℕ, List, false, bit_xor, get_or, sym, arith}
use Rattle.std.proofs.lemmas.Grind.{common_steps}
use lib.Bits.{xor_add_and, and_le_l, and_le_r}
use borrow.Author.Tests.{eq-eqb}
use Rattle.scan.specs.Conflict.{conflict_at}

-- one that is not filled
pub empty_no_conflict : (marks old new : List ℕ) (i : ℕ) → 0 ≡ get_or marks i 0 → conflict_at marks old new i ≡ false
empty_no_conflict marks old new i e = simp (eq-eqb (get_or marks i 0) 0 (sym e))

-- one that holds the new byte
pub equal_no_conflict : (marks old new : List ℕ) (i : ℕ) → 0 ≡ bit_xor (get_or old i 0) (get_or new i 0) → conflict_at marks old new i ≡ false
equal_no_conflict marks old new i e =
    let a = get_or old i 0 in
    let b = get_or new i 0 in
    let s : a ≡ b = omega (arith, xor_add_and a b, and_le_l a b, and_le_r a b) in
    grind (arith, common_steps)
