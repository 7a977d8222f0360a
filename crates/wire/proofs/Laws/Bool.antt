-- Laws of tests. Assumes nothing.
use Rattle.std.proofs.Common.{◌≡◌, ℕ, Bool, true, false, cond, ◌&&◌, ◌⊎◌, refl, ◌∙◌, inl, inr, arith}

-- what `cc` shows of two constructors that are taken for equal
pub impossible : {A : Type 0} → ◌≡◌ {A = ℕ} 0 1 → A
impossible bad = absurd (let no : ⊥ = omega arith in no)

pub either : (b : Bool) → (b ≡ true) ⊎ (b ≡ false)
either true = inl refl
either false = inr refl

pub not_both : {A : Type 0} (b : Bool) → b ≡ true → b ≡ false → A
not_both b e f = impossible (cc)

pub both : (a b : Bool) → a && b ≡ true → (a ≡ true) × (b ≡ true)
both true b e = (refl, e)
both false b e = impossible (cc)

pub and_false : (a : Bool) → a && false ≡ false
and_false true = refl
and_false false = refl

-- a test joined to those before it by "and": where they hold it decides, else they do
pub and_here : (v t w : Bool) → v ≡ true → w ≡ t → w ≡ (v && t)
and_here v t w e f = rw e f

pub and_before : (v t w : Bool) → v ≡ false → w ≡ v → w ≡ (v && t)
and_before v t w e f = f ∙ rw e

-- what holds of each outcome of a test holds of the test
pub by_test : {A : Type 0} (P : A → Type 0) (b : Bool) (x y : A) → (b ≡ true → P x) → (b ≡ false → P y) → P (cond b x y)
by_test P true x y p q = p refl
by_test P false x y p q = q refl
