-- Starts and continuations (003 section 2.2.3; 01, "Cursor packets": types 2 and 3). Assumes nothing.
use Rattle.std.specs.Prelude.{ℕ, ◌+◌, ◌≤◌, ◌≡◌, Bool, true, cond, ◌||◌, List, [], ◌∷◌, ◌++◌, ltb, leb, eqb, ℤ, pos, negsuc, length, drop, Result, is_some, unwrap_or}
use Rattle.wire.specs.Number.{number}
use Rattle.wire.specs.Signed.{signed}
use Rattle.wire.specs.Status.{Status, accepted, number_of, passed, placed}
use Rattle.wire.specs.Numbered.{numbered}
use Rattle.wire.specs.declared.status.Refusal.TheVariants as refusal
use Rattle.wire.specs.declared.status.Refused.{Refused}
use Rattle.cursor_fragment.specs.declared.Fragment.{Fragment}
use Rattle.cursor_fragment.specs.declared.start.Start.{Start}
use Rattle.wire.specs.Checks.{Check, refuse, first_of}
use Rattle.cursor_packet.specs.Frame.{type_of, size_of, frame_checks}
use Rattle.cursor_fragment.specs.Start.{no_start, start_in}

-- the call for starts and continuations takes types 2 and 3 only
unfoldable pub takes_type : ℕ → Bool
takes_type t = eqb t 2 || eqb t 3

abbrev pub is_start : List ℕ → Bool
is_start p = eqb (type_of p) 2

-- the header from MsgType to the data: 18 bytes of a start, 13 of a continuation
unfoldable pub header_length : Bool → ℕ
header_length starts = cond starts 18 13

unfoldable pub image_data : Bool → List ℕ → List ℕ
image_data starts p = drop (12 + header_length starts) p

-- the offset's four bytes as a number; a start has none, and its data stand at offset 0
unfoldable pub offset_bits : Bool → List ℕ → ℕ
offset_bits starts p = cond starts 0 (number 4 p 21)

-- the offset is two's complement ("offset (4, signed)")
abbrev pub offset_of : Bool → List ℕ → ℤ
offset_of starts p = signed 4 (offset_bits starts p)

-- the place that an offset names; 0 for a negative one, which check 9 refuses
unfoldable pub place_of : ℤ → ℕ
place_of (pos offset) = offset
place_of (negsuc k) = 0

-- refusal 9: negative offset, or offset plus data beyond the total
unfoldable pub outside : ℤ → ℕ → ℕ → Bool
outside (pos offset) size total = ltb total (offset + size)
outside (negsuc k) size total = true

-- of a packet: its offset and its data against its total
abbrev pub is_outside : Bool → List ℕ → Bool
is_outside starts p = outside (offset_of starts p) (length (image_data starts p)) (number 4 p 15)

-- PacketMsgSize has room for the header
abbrev pub size_fits : Bool → List ℕ → Bool
size_fits starts p = leb (header_length starts) (size_of p)

-- the checks of the call for starts and continuations on the packet alone, in their order
unfoldable pub fragment_frame : Bool → List ℕ → List Check
fragment_frame starts p = frame_checks (takes_type (type_of p)) (size_fits starts p) p

unfoldable pub fragment_checks : Bool → List ℕ → List Check
fragment_checks starts p = fragment_frame starts p ++ (refuse refusal.OutsideImage (is_outside starts p) ∷ [])

-- the fields of a start or of a continuation; a start's position is the pointer's and none of them
unfoldable pub fragment_as : Bool → List ℕ → Fragment
fragment_as starts p = record {
  sequence = number 2 p 2;
  total = number 4 p 15;
  id = number 2 p 19;
  offset = place_of (offset_of starts p);
  start = start_in starts p;
}

-- a fragment is a start
abbrev pub starts : Fragment → Bool
starts f = is_some f.start

-- its own fields, those where no start was seen in a continuation
abbrev pub own_fields : Fragment → Start
own_fields f = unwrap_or f.start no_start

abbrev pub fragment_of : List ℕ → Fragment
fragment_of p = fragment_as (is_start p) p

abbrev pub fragment_status : List ℕ → Status
fragment_status p = first_of (fragment_checks (is_start p) p)

abbrev pub data_of : List ℕ → List ℕ
data_of p = image_data (is_start p) p

unfoldable pub read_fragment : List ℕ → Result Fragment Refused
read_fragment p = placed (passed (fragment_status p) (fragment_of p)) 0

-- The number of an answer is that of the first check that refuses, 0 where none does; its place is 0. The proof stands in
-- proofs/Laws/Fragment.antt.
abbrev pub NumberByChecks : Type 0
NumberByChecks = (p : List ℕ) → numbered (read_fragment p) ≡ record { number = number_of (fragment_status p); place = 0 }

-- Of an accepted packet the fragment's offset is the number that stands in it, and the data lie inside the total. The proofs stand in
-- proofs/Laws/Fragment.antt.
unfoldable pub OffsetKept : Type 0
OffsetKept = (p : List ℕ) → accepted (fragment_status p) ≡ true → offset_of (is_start p) p ≡ pos (fragment_of p).offset

unfoldable pub DataInside : Type 0
DataInside = (p : List ℕ) → accepted (fragment_status p) ≡ true → (fragment_of p).offset + length (data_of p) ≤ (fragment_of p).total
