-- The first two bytes of a packet, looked at as one number. Assumes nothing.
use Prim.Native.Nat.{ℕ, ◌+◌, ◌*◌, ◌<◌}
use mathlib.Core.Path.{◌≡◌, refl}
use mathlib.Core.Bool.{Bool, true, false, ◌&&◌}
use mathlib.Core.List.{List}
use native.Mathlib.Omega.{arith}
use borrow.Author.Tests.{eqb-true, eqb-false, eq-eqb, ne_eqb}
use lib.Dec.{eqb}
use lib.ListN.{get_or}
use Rattle.wire.specs.Number.{number_in, number, Bytes}

-- it is that of two bytes exactly if each is
pub first_two : (s : List ℕ) (c d : ℕ) → Bytes s → d < 256 → eqb (number 2 s 0) (256 * c + d) ≡ (eqb (get_or s 0 0) c && eqb (get_or s 1 0) d)
unfolding number_in
first_two s c d small to = go (eqb a c) refl (eqb b d) refl
  where
    a : ℕ
    a = get_or s 0 0

    b : ℕ
    b = get_or s 1 0

    go : (x : Bool) → eqb a c ≡ x → (y : Bool) → eqb b d ≡ y → eqb (256 * (0 + a) + b) (256 * c + d) ≡ (x && y)
    go true e true f = eq-eqb (256 * (0 + a) + b) (256 * c + d) (omega (arith, eqb-true a c e, eqb-true b d f))
    go true e false f = ne_eqb (256 * (0 + a) + b) (256 * c + d) (λ h. eqb-false b d f (omega (arith, eqb-true a c e)))
    go false e y f = ne_eqb (256 * (0 + a) + b) (256 * c + d) (λ h. eqb-false a c e (omega (arith, small 1)))
