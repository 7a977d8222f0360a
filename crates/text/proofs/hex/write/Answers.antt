-- What is still to be written, the k digits of the rest, and the places already written are the digits of the number. Assumes nothing.
use Rattle.std.proofs.Common.{◌≡◌, ◌∙◌, arith}
use Rattle.text.specs.Hex.{spell_digits}
use Rattle.text.proofs.Laws.Hex.{write_last}
use Rattle.text.proofs.hex.write.Goals as goal

pub loop-k-preserved : goal.loop-k-preserved
loop-k-preserved c =
    let l = c.loop-k in
    rw c.capital_digit.ensures (write_last l.k l.rest l.out (omega arith) (omega arith)) ∙ l.invariant

pub returns : goal.returns
unfolding spell_digits
returns c =
    let l = c.loop-k in
    let z : l.k ≡ 0 = omega arith in
    rw z at l.invariant
