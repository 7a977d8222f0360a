-- The bytes so far are digits, and `number` is the number in them. Assumes nothing.
use Rattle.std.proofs.Common.{◌≡◌, ◌^◌, ◌<◌, true}
use Rattle.wire.specs.Below.{all_below}
use Rattle.text.specs.Hex.{is_digit, number}
use Rattle.text.proofs.hex.read.Given as goal

abbrev pub invariant-loop-byte : goal.invariant-loop-byte
invariant-loop-byte l = record {
  digits : all_below l.byte-index (is_digit l.bytes) ≡ true;
  value : l.number ≡ number l.byte-index l.bytes;
  small : l.number < 16 ^ l.byte-index;
}
