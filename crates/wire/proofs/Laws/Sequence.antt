-- Laws of the order of sequence numbers. Assumes nothing.
use Rattle.std.proofs.Common.{◌≡◌, ℕ, ◌+◌, ◌%◌, ◌<◌, ◌≤◌, true, false, leb, ◌⊎◌, inl, inr, arith, le-leb, leb-true}
use native.Mathlib.Decide.{dec_lt}
use borrow.Author.Tests.{lt-leb}
use Rattle.wire.proofs.Laws.Bool.{both}
use Rattle.wire.specs.Sequence.{distance, is_newer, NeverItself, OneWay, ShiftSame, OtherWay}

distance_shift : (a b k : ℕ) → a < 65536 → b < 65536 → distance ((a + k) % 65536) ((b + k) % 65536) ≡ distance a b
unfolding distance
distance_shift a b k ha hb = omega arith

-- newer is: a distance from 1 to 32,767
pub newer_near : (last new : ℕ) → 1 ≤ distance last new → distance last new ≤ 32767 → is_newer true last new ≡ true
unfolding is_newer
newer_near last new l u = simp (le-leb 1 (distance last new) l, le-leb (distance last new) 32767 u)

pub near_newer : (last new : ℕ) → is_newer true last new ≡ true → (1 ≤ distance last new) × (distance last new ≤ 32767)
unfolding is_newer
near_newer last new e =
    let d = distance last new in
    let h = both (leb 1 d) (leb d 32767) e in
    (leb-true 1 d h.0, leb-true d 32767 h.1)

far_apart : (last new : ℕ) → is_newer true last new ≡ false → 1 ≤ distance last new → 32767 < distance last new
far_apart last new e l = elim (dec_lt 32767 (distance last new)) [
  | yes f ↦ f
  | no f ↦ let n = newer_near last new l (omega arith) in let bad : ◌≡◌ {A = ℕ} 0 1 = cc in absurd (let no : ⊥ = omega arith in no)
]

not_newer : (last new : ℕ) → distance last new ≡ 0 ⊎ 32767 < distance last new → is_newer true last new ≡ false
unfolding is_newer
not_newer last new (inl e) = simp e
not_newer last new (inr l) = simp (lt-leb (distance last new) 32767 l, le-leb 1 (distance last new) (omega arith))

pub never_itself : NeverItself
unfolding distance
never_itself s h = not_newer s s (inl (omega arith))

pub one_way : OneWay
unfolding distance
one_way a b ha hb e = not_newer b a (inr (omega (arith, (near_newer a b e).0, (near_newer a b e).1)))

pub shift_same : ShiftSame
unfolding is_newer
shift_same a b k ha hb = rw (distance_shift a b k ha hb)

pub other_way : OtherWay
unfolding distance
other_way a b ha hb n m e =
    let far : 32767 < distance a b = far_apart a b e (omega arith) in
    newer_near b a (omega arith) (omega arith)
