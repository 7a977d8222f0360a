-- Laws of the two tables: each is a fact of every row. Assumes nothing.
use Prim.Native.Nat.{ℕ, zero, suc, ◌%◌, ◌≤◌, ◌<◌}
use mathlib.Core.Path.{◌≡◌, refl, sym, ap, ◌∙◌}
use mathlib.Core.List.{List}
use mathlib.Core.Bool.{true, false, ◌&&◌}
use native.Mathlib.Omega.{arith}
use native.Mathlib.Decide.{dec_lt}
use borrow.Author.Tests.{leb-true}
use lib.Dec.{leb, eqb}
use lib.ListN.{length, get_or, get_or-eq_default}
use denote.Enum.Bare.{same_true, same_false, true_same, false_same}
use Rattle.message_rules.specs.contracts.role.Role.{the_type}
use Rattle.message_rules.specs.declared.role.Role.{Role}
use Rattle.message_rules.specs.Rules.{foreign, needed, same_role, no_roles, roles_of, role_of, lengths_of, length_in, length_ok}
use Rattle.wire.proofs.Laws.Bool.{both}

-- `==` on roles tells whether two roles are one
pub same_role_true : (a b : Role) → same_role a b ≡ true → a ≡ b
same_role_true a b = same_true the_type tt a b

pub same_role_false : (a b : Role) → same_role a b ≡ false → a ≡ b → ⊥
same_role_false a b = same_false the_type a b

pub true_same_role : (a b : Role) → a ≡ b → same_role a b ≡ true
true_same_role a b = true_same the_type a b

pub false_same_role : (a b : Role) → (a ≡ b → ⊥) → same_role a b ≡ false
false_same_role a b = false_same the_type tt a b

-- a needed type is not foreign
pub needed_own : (r : Role) → r ≡ needed → r ≡ foreign → ⊥
needed_own r e f = same_role_false needed foreign refl (sym e ∙ f)

-- what holds of each column of the tables
pub each_type
    : (P : ℕ → Type 0) → P 0 → P 1 → P 2 → P 3 → P 4 → P 5 → P 6 → P 7
    → (t : ℕ) → t < 8 → P t
each_type P z a b d e f g i zero h = z
each_type P z a b d e f g i (suc zero) h = a
each_type P z a b d e f g i (suc (suc zero)) h = b
each_type P z a b d e f g i (suc (suc (suc zero))) h = d
each_type P z a b d e f g i (suc (suc (suc (suc zero)))) h = e
each_type P z a b d e f g i (suc (suc (suc (suc (suc zero))))) h = f
each_type P z a b d e f g i (suc (suc (suc (suc (suc (suc zero)))))) h = g
each_type P z a b d e f g i (suc (suc (suc (suc (suc (suc (suc zero))))))) h = i
each_type P z a b d e f g i (suc (suc (suc (suc (suc (suc (suc (suc t)))))))) h = absurd (let no : ⊥ = omega arith in no)

-- what holds of every row of the table, and of no command, holds of every command
rows
    : (P : List Role → Type 0) → P no_roles → P (roles_of 1) → P (roles_of 2) → P (roles_of 3) → P (roles_of 4) → P (roles_of 5) → P (roles_of 6)
    → (c : ℕ) → P (roles_of c)
unfolding roles_of
rows P z a b d e f g zero = z
rows P z a b d e f g (suc zero) = a
rows P z a b d e f g (suc (suc zero)) = b
rows P z a b d e f g (suc (suc (suc zero))) = d
rows P z a b d e f g (suc (suc (suc (suc zero)))) = e
rows P z a b d e f g (suc (suc (suc (suc (suc zero))))) = f
rows P z a b d e f g (suc (suc (suc (suc (suc (suc zero)))))) = g
rows P z a b d e f g (suc (suc (suc (suc (suc (suc (suc c))))))) = z

pub eight_columns : (c : ℕ) → length (roles_of c) ≡ 8
unfolding roles_of
eight_columns c = rows (λ (r : List Role). length r ≡ 8) refl refl refl refl refl refl refl c

pub no_type : (c t : ℕ) → 7 < t → role_of c t ≡ foreign
unfolding role_of
no_type c t h = get_or-eq_default (roles_of c) foreign {n = t} (omega (arith, eight_columns c))

-- there is no type 1
pub no_type_1 : (c : ℕ) → role_of c 1 ≡ foreign
unfolding role_of roles_of
no_type_1 c = rows (λ (r : List Role). get_or r 1 foreign ≡ foreign) refl refl refl refl refl refl refl c

-- a type that is not foreign to a command is below 8, and not 1
pub type_small : (c t : ℕ) → (role_of c t ≡ foreign → ⊥) → t < 8
type_small c t own = elim (dec_lt t 8) [
  | yes h ↦ h
  | no h ↦ absurd (own (no_type c t (omega arith)))
]

pub type_not_1 : (c t : ℕ) → (role_of c t ≡ foreign → ⊥) → t ≡ 1 → ⊥
type_not_1 c t own q = own (ap (role_of c) q ∙ no_type_1 c)

-- two bytes hold the greatest length
length_rule : (t : ℕ) → (lengths_of t).1 ≤ 65535
unfolding lengths_of
length_rule zero = omega arith
length_rule (suc zero) = omega arith
length_rule (suc (suc zero)) = omega arith
length_rule (suc (suc (suc zero))) = omega arith
length_rule (suc (suc (suc (suc zero)))) = omega arith
length_rule (suc (suc (suc (suc (suc zero))))) = omega arith
length_rule (suc (suc (suc (suc (suc (suc zero)))))) = omega arith
length_rule (suc (suc (suc (suc (suc (suc (suc zero))))))) = omega arith
length_rule (suc (suc (suc (suc (suc (suc (suc (suc t)))))))) = omega arith

pub length_held : (t n : ℕ) → length_ok t n ≡ true → n ≤ 65535
unfolding length_in length_ok
length_held t n e =
    let l = lengths_of t in
    let h = both (leb l.0 n) (leb n l.1 && eqb (n % l.2) 0) e in
    let k = both (leb n l.1) (eqb (n % l.2) 0) h.1 in
    omega (arith, leb-true n l.1 k.0, length_rule t)
