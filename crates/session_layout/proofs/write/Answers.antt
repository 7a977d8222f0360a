-- A shorter slice is left alone; else each number stands after the one before, and the Source ID after them. Assumes nothing.
use mathlib.Core.Path.{◌≡◌, sym, ap, ◌∙◌}
use native.Mathlib.Omega.{arith}
use borrow.Rule.Slice.PartMut.{put_mid}
use lib.ListN.{length}
use Rattle.session_layout.specs.SessionLayout.{session_bytes}
use Rattle.wire.proofs.Laws.Laid.{laid_short}
use Rattle.wire.proofs.Laws.Layout.{nothing, flag_byte}
use Rattle.wire.proofs.Laws.Splice.{part_back}
use Rattle.wire.proofs.Laws.Written.{next, next_as, next_part, whole}
use Rattle.session_layout.proofs.Laws.SessionLayout.{session_length}
use borrow.Author.Rules.{rules}
use Rattle.session_layout.proofs.write.Goals as goal

pub returns-then-record-lt-LENGTH : goal.returns-then-record-lt-LENGTH
returns-then-record-lt-LENGTH c =
    let a = c.args in
    let l : length (session_bytes a.session) ≡ 19 = session_length a.session (search rules) in
    sym (laid_short (session_bytes a.session) a.«record».now (omega arith))

pub returns : goal.returns
unfolding session_bytes
returns c =
    let a = c.args in
    let xs = a.«record».now in
    let id = a.session.source.bytes in
    let sixteen : length id ≡ 16 = search rules in
    let state = next_as (nothing 0 xs) 1 _ c.from.ensures c.write.ensures.bytes (omega arith) in
    let options = next state 1 _ c.write-2.ensures.bytes (omega arith) in
    let present = next_as options 1 _ (c.from-2.ensures ∙ flag_byte a.session.source.present) c.write-3.ensures.bytes (omega arith) in
    let front = c.write-3.new.out in
    let copied = ap (put_mid 3 16 front) c.copy_from_slice.ensures.after ∙ part_back 3 16 front id sixteen in
    whole (next_part present id 16 sixteen copied (omega arith)) (omega arith)
