-- The record of the opened picture (01, "Cursor packets": "Picture"; refusals 10 and 17). Assumes nothing.
use Rattle.std.specs.Prelude.{ℕ, Bool, true, false, cond, ◌&&◌, leb, eqb}
use Rattle.std.specs.Bool.{beq}
use Rattle.cursor_fragment.specs.Start.{no_start, same_start}
use Rattle.cursor_picture.specs.declared.Picture.{Picture}

-- no picture is opened
unfoldable pub fresh_picture : Picture
fresh_picture = record { opened = false; id = 0; total = 0; opening = 0; seen = false; start = no_start }

-- two records are the same in every field
unfoldable pub same_picture : Picture → Picture → Bool
same_picture a b =
    beq a.opened b.opened
    && eqb a.id b.id
    && eqb a.total b.total
    && eqb a.opening b.opening
    && beq a.seen b.seen
    && same_start a.start b.start

-- the total is no larger than 262,144, than the lent picture and than the lent marks, of which the lengths are given
unfoldable pub has_room : ℕ → ℕ → ℕ → Bool
has_room total image marks = leb total 262144 && (leb total image && leb total marks)

-- refusal 17 doesn't apply: no picture is opened, or the opened one has room
unfoldable pub held : Picture → ℕ → ℕ → Bool
held q image marks = cond q.opened (has_room q.total image marks) true
