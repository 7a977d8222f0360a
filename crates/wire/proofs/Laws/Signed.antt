-- Laws of two's complement: it goes back, and for n bytes it is the machine's of the width w that has as many bits. Assumes nothing.
use Rattle.std.proofs.Common.{◌≡◌, ℕ, ◌*◌, ◌^◌, ◌<◌, ℤ, pos, negsuc, refl, ap, arith, to_z, of_z, le-ltb, lt-ltb}
use native.Mathlib.Decide.{dec_lt}
use mir.Syntax.{Width}
use mir.Val.{bits, hbits}
use Rattle.wire.specs.Signed.{signed, unsigned, SignedBack}

pub signed_back : SignedBack
unfolding signed unsigned
signed_back n x h =
    elim (dec_lt (2 * x) (256 ^ n)) [
      | yes l ↦ simp (lt-ltb (2 * x) (256 ^ n) l)
      | no l ↦ simp (le-ltb (2 * x) (256 ^ n) (omega arith), lt-ltb x (256 ^ n) h) (omega arith)
    ]

module _ (w : Width) (n : ℕ) (full : 256 ^ n ≡ 2 ^ bits w) (halves : 2 ^ bits w ≡ 2 * 2 ^ hbits w) (x : ℕ) (h : x < 256 ^ n) where
  pub signed_to_z : to_z w x ≡ signed n x
  unfolding signed
  signed_to_z =
      elim (dec_lt x (2 ^ hbits w)) [
        | yes l ↦ simp (lt-ltb x (2 ^ hbits w) l, lt-ltb (2 * x) (256 ^ n) (omega arith))
        | no l ↦
            simp (le-ltb x (2 ^ hbits w) (omega arith), le-ltb (2 * x) (256 ^ n) (omega arith), lt-ltb x (256 ^ n) h)
            (ap negsuc (omega arith))
      ]

pub unsigned_of_z : (w : Width) (n : ℕ) → 256 ^ n ≡ 2 ^ bits w → (z : ℤ) → of_z w z ≡ unsigned n z
unfolding unsigned
unsigned_of_z w n e (pos x) = refl
unsigned_of_z w n e (negsuc k) = omega arith
