-- The bytes so far are digits, and `number` is the number in them. Assumes nothing.
use Rattle.std.proofs.Common.{◌≡◌, true, length, get_or, Some, refl, sym, arith}
use native.Mathlib.Numerals.{add-one}
use borrow.Author.Tests.{le-leb, lt-leb}
use Rattle.wire.specs.Below.{all_below}
use Rattle.wire.proofs.Laws.Below.{one_below, below_next}
use Rattle.text.specs.Hex.{digit_value, is_digit, number, read_digits}
use Rattle.text.proofs.Laws.Hex.{digit_small, four_small}
use Rattle.text.proofs.hex.read.Goals as goal

pub returns-then-bytes-gt4 : goal.returns-then-bytes-gt4
unfolding read_digits
returns-then-bytes-gt4 c = simp (lt-leb (length c.args.bytes.now) 4 c.if-bytes-gt4.true)

pub loop-byte-init : goal.loop-byte-init
unfolding all_below number
loop-byte-init c = record { digits = refl; value = refl; small = omega arith }

pub returns-in_err-value : goal.returns-in_err-value
unfolding read_digits is_digit
returns-in_err-value c =
    let s = c.args.bytes.now in
    let k = c.loop-byte.byte-index in
    simp (
      le-leb (length s) 4 c.if-bytes-gt4.false,
      one_below (is_digit s) (length s) k c.loop-byte-test.true (simp (← c.in_err-value.ensures)),
      c.from_residual.ensures,
    )

pub overflow_add-number : goal.overflow_add-number
overflow_add-number c =
    let l = c.loop-byte in
    let f = digit_small (get_or c.args.bytes.now l.byte-index 0) c.in_ok-value.value (sym c.in_ok-value.ensures) in
    let g = four_small l.byte-index l.number (omega arith) l.invariant.small in
    omega arith

pub loop-byte-preserved : goal.loop-byte-preserved
unfolding is_digit number
loop-byte-preserved c =
    let s = c.args.bytes.now in
    let l = c.loop-byte in
    let d : digit_value (get_or s l.byte-index 0) ≡ Some c.in_ok-value.value = sym c.in_ok-value.ensures in
    record {
      digits = below_next (is_digit s) l.byte-index l.invariant.digits (simp d);
      value = rw (add-one, d) (omega (arith, l.invariant.value));
      small = let f = digit_small (get_or s l.byte-index 0) c.in_ok-value.value d in rw add-one (omega arith);
    }

pub returns : goal.returns
unfolding read_digits
returns c =
    let l = c.loop-byte in
    let s = c.args.bytes.now in
    let e : l.byte-index ≡ length s = omega arith in
    let all : all_below (length s) (is_digit s) ≡ true = rw e at l.invariant.digits in
    let is : l.number ≡ number (length s) s = rw e at l.invariant.value in
    simp (le-leb (length s) 4 c.if-bytes-gt4.false, all, is)
