-- 02 §2 over the reading of a packet, whatever its type. The proof stands in proofs/Laws/UnusedFields.antt. Assumes nothing.
use Rattle.std.specs.Prelude.{ℕ, ◌≡◌, List}
use Rattle.cursor_packet.specs.Position.{read_position}
use Rattle.cursor_packet.specs.UnusedFields.{SameButUnused}
use Rattle.cursor_fragment.specs.Fragment.{data_of, read_fragment}
use Rattle.cursor_fragment.specs.Start.{start_position}

-- all that is read in two packets is the same: as a position, and as a start or a continuation, with its data and a start's position
pub record SameRead (a b : List ℕ) : Type 0 where
  pub position : read_position a ≡ read_position b
  pub fragment : read_fragment a ≡ read_fragment b
  pub image_data : data_of a ≡ data_of b
  pub moves_to : start_position a ≡ start_position b

-- Packets that differ only in timestamp and SSRC are read alike.
abbrev pub ReadAlike : Type 0
ReadAlike = (a b : List ℕ) → SameButUnused a b → SameRead a b
