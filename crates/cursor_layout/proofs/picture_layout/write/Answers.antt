-- A shorter slice is left alone; else each number stands after the one before. Assumes nothing.
use mathlib.Core.Path.{sym}
use native.Mathlib.Omega.{arith}
use Rattle.wire.specs.Number.{bytes_in}
use Rattle.cursor_layout.specs.PictureLayout.{start_bytes, picture_bytes}
use Rattle.wire.proofs.Laws.Laid.{laid_short}
use Rattle.wire.proofs.Laws.Layout.{nothing, flag_byte}
use Rattle.wire.proofs.Laws.Written.{next, next_as, next_part, whole}
use Rattle.cursor_layout.proofs.Laws.PictureLayout.{start_length}
use Rattle.cursor_layout.proofs.picture_layout.write.Goals as goal

pub returns-then-record-lt-LENGTH : goal.returns-then-record-lt-LENGTH
unfolding picture_bytes start_bytes bytes_in
returns-then-record-lt-LENGTH c = let a = c.args in
    sym (laid_short (picture_bytes a.picture) a.«record».now c.if-record-lt-LENGTH.true)

pub returns : goal.returns
unfolding picture_bytes
returns c = let a = c.args in
    let xs = a.«record».now in
    let opened = next_as (nothing 0 xs) 1 _ (flag_byte a.picture.opened) c.write.ensures.bytes (omega arith) in
    let id = next opened 2 _ c.write-2.ensures.bytes (omega arith) in
    let total = next id 4 _ c.write-3.ensures.bytes (omega arith) in
    let opening = next total 2 _ c.write-4.ensures.bytes (omega arith) in
    whole (next_part opening (start_bytes a.picture.seen a.picture.start) 6 (start_length a.picture.seen a.picture.start) c.write_start.ensures (omega arith)) (omega arith)
