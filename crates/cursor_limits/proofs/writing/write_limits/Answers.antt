-- What is still to be written on the present bytes gives what was to be written on the first ones. Assumes nothing.
use Prim.Native.Nat.{◌+◌, ◌*◌, ◌-◌}
use mathlib.Core.Path.{◌≡◌, sym, ◌∙◌}
use native.Mathlib.Omega.{arith}
use Rattle.wire.proofs.Laws.Splice.{splice_none}
use Rattle.cursor_limits.proofs.Laws.Writing.{spell_fields, room_back, field_back, limits_written}
use Rattle.cursor_limits.proofs.writing.write_limits.Goals as goal

pub loop-i-preserved : goal.loop-i-preserved
loop-i-preserved c =
    let l = c.loop-i in
    let five : 4 + 5 * l.i + 5 - (4 + 5 * l.i) ≡ 5 = omega arith in (
      rw (five, c.write_field.ensures) (room_back (4 + 5 * l.i) _ l.out (omega arith) (omega arith)),
      rw (five, c.write_field.ensures) (field_back l.i _ l.out (omega arith) (omega arith) l.invariant.1),
    )

pub returns : goal.returns
unfolding spell_fields
returns c =
    let l = c.loop-i in
    let z : l.i ≡ 3 = omega arith in
    let fields = sym (splice_none 19 l.out) ∙ (rw z at l.invariant.1) in
    rw (c.copy.ensures, c.word_of-word.ensures, fields) (limits_written c.args.limits c.args.out.now c.requires)
