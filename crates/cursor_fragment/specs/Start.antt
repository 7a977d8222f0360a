-- What only a start has: its own fields (01, "Cursor packets": "those of section 2.2.3 without type, size, total, id, position, any offset, and
-- data"), and its position. Assumes nothing.
use Rattle.std.specs.Prelude.{ℕ, Bool, cond, ◌&&◌, List, eqb, Option, Some, None}
use Rattle.wire.specs.Number.{number}
use Rattle.cursor_packet.specs.Position.{position_at}
use Rattle.cursor_packet.specs.declared.position.Position.{Position}
use Rattle.cursor_fragment.specs.declared.start.Start.{Start}

unfoldable pub start_of : List ℕ → Start
start_of p = record { image_type = number 1 p 25; hot_x = number 2 p 26; hot_y = number 2 p 28 }

-- where no start was seen
unfoldable pub no_start : Start
no_start = record { image_type = 0; hot_x = 0; hot_y = 0 }

-- the start fields of a start; a continuation has none
unfoldable pub start_in : Bool → List ℕ → Option Start
start_in starts p = cond starts (Some (start_of p)) None

-- the own fields of two starts are the same
unfoldable pub same_start : Start → Start → Bool
same_start a b = eqb a.image_type b.image_type && (eqb a.hot_x b.hot_x && eqb a.hot_y b.hot_y)

-- the position of a start, with the packet's sequence number
abbrev pub start_position : List ℕ → Position
start_position p = position_at 21 23 p
