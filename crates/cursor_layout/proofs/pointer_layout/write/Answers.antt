-- A shorter slice is left alone; else each number stands after the one before. Assumes nothing.
use mathlib.Core.Path.{sym, ap, ◌∙◌}
use mir.Syntax.{w16}
use mir.Val.{SFits}
use mir.ValLaws.{to_z-of_z}
use native.Mathlib.Omega.{arith}
use Rattle.wire.specs.Signed.{unsigned}
use Rattle.wire.specs.Number.{bytes_in}
use Rattle.cursor_layout.specs.PointerLayout.{pointer_bytes}
use Rattle.wire.proofs.Laws.Laid.{laid_short}
use Rattle.wire.proofs.Laws.Layout.{nothing, flag_byte}
use Rattle.wire.proofs.Laws.Written.{next, next_as, whole}
use borrow.Author.Rules.{rules}
use Rattle.cursor_layout.proofs.pointer_layout.write.Goals as goal

pub returns-then-record-lt-LENGTH : goal.returns-then-record-lt-LENGTH
unfolding pointer_bytes bytes_in
returns-then-record-lt-LENGTH c = let a = c.args in
    sym (laid_short (pointer_bytes a.pointer) a.«record».now c.if-record-lt-LENGTH.true)

pub returns : goal.returns
unfolding pointer_bytes
returns c = let a = c.args in
    let xs = a.«record».now in
    let fits_x : SFits w16 a.pointer.x = search rules in
    let fits_y : SFits w16 a.pointer.y = search rules in
    let known = next_as (nothing 0 xs) 1 _ (flag_byte a.pointer.known) c.write.ensures.bytes (omega arith) in
    let sequence = next known 2 _ c.write-2.ensures.bytes (omega arith) in
    let across = next_as sequence 2 _ (c.unsigned16.ensures ∙ ap (unsigned 2) (to_z-of_z w16 a.pointer.x fits_x)) c.write-3.ensures.bytes (omega arith) in
    let down = next_as across 2 _ (c.unsigned16-2.ensures ∙ ap (unsigned 2) (to_z-of_z w16 a.pointer.y fits_y)) c.write-4.ensures.bytes (omega arith) in
    whole down (omega arith)
