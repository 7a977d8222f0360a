-- What is still to be written, the k digits of the rest, and the places already written are the digits of the number. Assumes nothing.
use Rattle.std.proofs.Common.{◌≡◌, ◌++◌, length, drop}
use Rattle.text.specs.Hex.{spell_digits}
use Rattle.text.proofs.hex.write.Given as goal

abbrev pub invariant-loop-k : goal.invariant-loop-k
invariant-loop-k l = spell_digits l.k l.rest ++ drop l.k l.out ≡ spell_digits (length l.initial.out) l.number
