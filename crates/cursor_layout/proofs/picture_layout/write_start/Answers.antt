-- Each number stands after the one before. Assumes nothing.
use native.Mathlib.Omega.{arith}
use Rattle.cursor_layout.specs.PictureLayout.{start_bytes}
use Rattle.wire.proofs.Laws.Layout.{nothing, flag_byte}
use Rattle.wire.proofs.Laws.Written.{next, next_as}
use Rattle.cursor_layout.proofs.picture_layout.write_start.Goals as goal

pub returns : goal.returns
unfolding start_bytes
returns c = let a = c.args in
    let xs = a.«record».now in
    let seen = next_as (nothing 9 xs) 1 _ (flag_byte a.seen) c.write.ensures.bytes (omega arith) in
    let image = next seen 1 _ c.write-2.ensures.bytes (omega arith) in
    let across = next image 2 _ c.write-3.ensures.bytes (omega arith) in
    (next across 2 _ c.write-4.ensures.bytes (omega arith)).all
