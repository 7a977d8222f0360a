-- Numbers written one right after the other are the record's bytes, and each reads back at its place. Assumes nothing.
use Prim.Native.Nat.{ℕ, ◌≤◌, ◌<◌}
use mathlib.Core.Path.{◌≡◌, refl}
use mathlib.Core.List.{List, [], ◌++◌}
use native.Mathlib.Omega.{arith}
use lib.ListN.{length, length-append}
use Rattle.cursor_limits.specs.declared.value.Xor.{Xor}
use Rattle.cursor_limits.specs.declared.value.Xor.TheVariants as xor
use Rattle.cursor_limits.specs.declared.value.Value.{Value}
use Rattle.cursor_limits.specs.declared.value.Value.TheVariants as value
use Rattle.wire.specs.Laid.{laid}
use Rattle.cursor_limits.specs.Value.{xor_byte, xor_of}
use Rattle.limits_layout.specs.LimitsLayout.{number_bytes, limits_bytes, limits_in, LimitsBack}
use Rattle.wire.specs.LittleEndian.{number_at, bytes, written}
use Rattle.wire.proofs.Laws.Laid.{laid_short}
use Rattle.wire.proofs.Laws.Layout.{nothing, Begins, laid_begins, before, number_in}
use Rattle.wire.proofs.Laws.Written.{next, whole}
use Rattle.wire.proofs.Laws.Number.{length_bytes}

module _ (supported x w h p : ℕ) where
  pub length_numbers : length (number_bytes supported x w h p) ≡ 8
  unfolding number_bytes
  length_numbers = simp (length-append, length_bytes)

  pub numbers_written
      : (xs a b d e f : List ℕ) → 8 ≤ length xs → a ≡ written 1 supported 0 xs → b ≡ written 1 x 1 a → d ≡ written 2 w 2 b
      → e ≡ written 2 h 4 d → f ≡ written 2 p 6 e → f ≡ laid (number_bytes supported x w h p) xs
  unfolding number_bytes
  numbers_written xs a b d e f room s t u v z =
      let first = next (nothing 0 xs) 1 supported s (omega arith) in
      let second = next first 1 x t (omega arith) in
      let third = next second 2 w u (omega arith) in
      let fourth = next third 2 h v (omega arith) in
      whole (next fourth 2 p z (omega arith)) room

  -- bytes that begin with those of the numbers hold the numbers
  module _ {s : List ℕ} (b : Begins 8 (number_bytes supported x w h p) s) where
    abbrev two : List ℕ
    two = bytes 1 supported ++ bytes 1 x

    abbrev four : List ℕ
    four = two ++ bytes 2 w

    abbrev six : List ℕ
    six = four ++ bytes 2 h

    begins : Begins 8 (six ++ bytes 2 p) s
    unfolding number_bytes
    begins = b

    begins_six : Begins 6 six s
    begins_six = before 6 six 2 p begins

    begins_four : Begins 4 four s
    begins_four = before 4 four 2 h begins_six

    begins_two : Begins 2 two s
    begins_two = before 2 two 2 w begins_four

    pub supported_in : supported < 256 → number_at 1 s 0 ≡ supported
    supported_in l = number_in 0 [] 1 supported l (before 1 (bytes 1 supported) 1 x begins_two)

    pub xor_in : x < 256 → number_at 1 s 1 ≡ x
    xor_in l = number_in 1 (bytes 1 supported) 1 x l begins_two

    pub width_in : w < 65536 → number_at 2 s 2 ≡ w
    width_in l = number_in 2 two 2 w l begins_four

    pub height_in : h < 65536 → number_at 2 s 4 ≡ h
    height_in l = number_in 4 four 2 h l begins_six

    pub port_in : p < 65536 → number_at 2 s 6 ≡ p
    port_in l = number_in 6 six 2 p l begins

pub length_limits : (v : Value) → length (limits_bytes v) ≡ 8
length_limits value.NotSupported = length_numbers 0 0 0 0 0
length_limits (value.Supported l) = length_numbers 1 (xor_byte l.xor) l.width l.height l.port

-- where the bytes are fewer than the layout's
pub limits_short : (v : Value) (xs : List ℕ) → length xs < 8 → laid (limits_bytes v) xs ≡ xs
limits_short v xs h = let n = length_limits v in laid_short (limits_bytes v) xs (omega arith)

xor_small : (x : Xor) → xor_byte x < 256
xor_small xor.None = omega arith
xor_small xor.Full = omega arith

xor_back : (x : Xor) → xor_of (xor_byte x) ≡ x
unfolding xor_of
xor_back xor.None = refl
xor_back xor.Full = refl

pub limits_back : LimitsBack
unfolding limits_in
limits_back value.NotSupported xs room held =
    rw (supported_in 0 0 0 0 0 (laid_begins 8 (number_bytes 0 0 0 0 0) xs (length_numbers 0 0 0 0 0) room) (omega arith))
limits_back (value.Supported l) xs room held =
    let x = xor_byte l.xor in
    let ds = number_bytes 1 x l.width l.height l.port in
    let b : Begins 8 ds (laid ds xs) = laid_begins 8 ds xs (length_numbers 1 x l.width l.height l.port) room in
    rw (
      supported_in 1 x l.width l.height l.port b (omega arith),
      xor_in 1 x l.width l.height l.port b (xor_small l.xor),
      width_in 1 x l.width l.height l.port b held.0,
      height_in 1 x l.width l.height l.port b held.1,
      port_in 1 x l.width l.height l.port b held.2,
      xor_back l.xor,
    )
