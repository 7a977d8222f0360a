-- Laws of hexadecimal digits, over the number of digits. Assumes nothing.
use Prim.Native.Nat.{ℕ, zero, suc, ◌+◌, ◌-◌, ◌*◌, ◌/◌, ◌%◌, ◌^◌, ◌≤◌, ◌<◌}
use mathlib.Core.Path.{◌≡◌, refl, sym}
use mathlib.Core.Bool.{false}
use mathlib.Core.List.{List, ◌++◌}
use native.Mathlib.Omega.{arith}
use lib.ListN.{length, drop, set, length-append}
use lib.Seq.{append_snoc, drop-cons, drop-set-lt, get_or-set_same, lt-length-set}
use Rattle.std.proofs.Common.{Some, None}
use Rattle.std.proofs.lemmas.Bool.Decides.{nat_tests}
use Rattle.text.specs.Range.{within}
use Rattle.text.specs.Hex.{digit_value, digit_of, spell_digits}
use Rattle.text.proofs.Laws.Range.{inside, above}

-- the value of a digit by its range
module _ (b : ℕ) where
  pub decimal_value : 0x30 ≤ b → b ≤ 0x39 → digit_value b ≡ Some (b - 0x30)
  unfolding digit_value
  decimal_value l h = simp (inside 0x30 0x39 b l h)

  pub upper_value : 0x41 ≤ b → b ≤ 0x46 → digit_value b ≡ Some (b - 0x41 + 10)
  unfolding digit_value
  upper_value l h = simp (above 0x30 0x39 b (omega arith), inside 0x41 0x46 b l h)

  pub lower_value : 0x61 ≤ b → b ≤ 0x66 → digit_value b ≡ Some (b - 0x61 + 10)
  unfolding digit_value
  lower_value l h = simp (above 0x30 0x39 b (omega arith), above 0x41 0x46 b (omega arith), inside 0x61 0x66 b l h)

  pub no_value : within 0x30 0x39 b ≡ false → within 0x41 0x46 b ≡ false → within 0x61 0x66 b ≡ false → digit_value b ≡ None
  unfolding digit_value
  no_value d u l = simp (d, u, l)

-- a digit's value is below 16
pub digit_small : (b d : ℕ) → digit_value b ≡ Some d → d < 16
unfolding digit_value within
digit_small b d e = grind (arith, nat_tests)

-- four digits fit in 16 bits
pub four_small : (n v : ℕ) → n < 4 → v < 16 ^ n → v * 16 + 15 < 65536
four_small zero v h l = omega arith
four_small (suc zero) v h l = omega arith
four_small (suc (suc zero)) v h l = omega arith
four_small (suc (suc (suc zero))) v h l = omega arith
four_small (suc (suc (suc (suc n)))) v h l = omega arith

-- writing stores the last digit first
pub write_last
    : (k v : ℕ) (xs : List ℕ) → 0 < k → k ≤ length xs
    → spell_digits (k - 1) (v / 16) ++ drop (k - 1) (set xs (k - 1) (digit_of (v % 16))) ≡ spell_digits k v ++ drop k xs
unfolding spell_digits
write_last zero v xs l h = absurd (let no : ⊥ = omega arith in no)
write_last (suc k) v xs l h =
    let e : suc k - 1 ≡ k = omega arith in
    let b = digit_of (v % 16) in
    rw (e, drop-cons (set xs k b) k 0 (lt-length-set xs k b h), get_or-set_same xs k b 0 h, drop-set-lt (suc k) xs k b (omega arith))
    (sym (append_snoc (spell_digits k (v / 16)) b (drop (suc k) xs)))

pub length_digits : (n v : ℕ) → length (spell_digits n v) ≡ n
unfolding spell_digits
length_digits zero v = refl
length_digits (suc n) v = simp (length-append, length_digits n (v / 16)) (omega arith)
