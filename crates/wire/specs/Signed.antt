-- Two's complement over the number of bytes (01: "A cursor position and a fragment's offset are two's complement"). Assumes nothing.
use Rattle.std.specs.Prelude.{◌≡◌, ℕ, suc, ◌-◌, ◌*◌, ◌^◌, ◌<◌, cond, ℤ, pos, negsuc, nat_lt}
use Rattle.std.proofs.Math.IntN.{sub_ℕ}

-- the number whose two's complement in n bytes is x: x in the lower half of their range, x minus the range in the upper half
unfoldable pub signed : ℕ → ℕ → ℤ
signed n x = cond (nat_lt (2 * x) (256 ^ n)) (pos x) (sub_ℕ x (256 ^ n))

-- the two's complement of a number in n bytes: the number itself, or the range plus the number where that is below 0
unfoldable pub unsigned : ℕ → ℤ → ℕ
unsigned n (pos x) = x
unsigned n (negsuc k) = 256 ^ n - suc k

-- Both ways, for any number of bytes. The proof stands in proofs/Laws/Signed.antt.
abbrev pub SignedBack : Type 0
SignedBack = (n x : ℕ) → x < 256 ^ n → unsigned n (signed n x) ≡ x
