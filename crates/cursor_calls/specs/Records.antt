-- Lists of the calls that hosts make, over the records, the picture and the marks that they lend. Demand 3 holds of them as it does of the
-- calls by value. The proofs stand in proofs/Laws/Records.antt. Assumes nothing.
use Rattle.std.specs.Prelude.{ℕ, ◌≡◌, true, List, [], ◌∷◌, eqb, length}
use Rattle.wire.specs.Number.{Bytes}
use Rattle.cursor_layout.specs.PointerLayout.{pointer_of}
use Rattle.cursor_layout.specs.PictureLayout.{picture_of, PictureFits}
use Rattle.cursor_fragment.specs.Fragment.{fragment_of}
use Rattle.cursor_picture.specs.declared.Picture.{Picture}
use Rattle.cursor_store.specs.Assembling.{picture_after}
use Rattle.cursor_store.specs.Receiver.{Call, packet_of, Receiver, run}
use Rattle.cursor_store.specs.Calls.{State, by_value}
use Rattle.cursor_store.specs.DemandThree.{DemandThree}
use Rattle.cursor_calls.specs.CursorCalls.{records_whole, StoreOutcome, cursor_store, cursor_complete}

-- what a host keeps between the calls, and lends to each
pub record Lent : Type 0 where
  pub pointer : List ℕ
  pub picture : List ℕ
  pub image : List ℕ
  pub marks : List ℕ

-- the exported call for starts and continuations
abbrev pub called : Lent → List ℕ → StoreOutcome
called s packet = cursor_store s.pointer s.picture packet s.image s.marks

-- what is lent to the next call
unfoldable pub next_lent : Lent → List ℕ → Lent
next_lent s packet =
    record {
      pointer = (called s packet).pointer;
      picture = (called s packet).picture;
      image = (called s packet).image;
      marks = (called s packet).marks;
    }

-- the records have all of their bytes; and what is lent is bytes
pub record RecordsLent (s : Lent) : Type 0 where
  pub whole : records_whole (length s.pointer) (length s.picture) ≡ true
  pub pointer : Bytes s.pointer
  pub picture : Bytes s.picture

abbrev pub PacketsLent : List Call → Type 0
PacketsLent [] = Unit {0}
PacketsLent (c ∷ l) = Bytes (packet_of c) × PacketsLent l

-- the receiver that keeps its records in bytes: a call is accepted where its number is 0, and the exported completeness question answers yes
abbrev pub over_records : Receiver
over_records = record {
  State = Lent;
  picture = λ s. picture_of s.picture;
  image = λ s. s.image;
  marks = λ s. s.marks;
  accepts = λ s packet. eqb (called s packet).answer.status 0;
  next = next_lent;
  Complete = λ s. cursor_complete s.picture s.image s.marks ≡ record { status = 0; yes = true };
  Asked = λ s l. RecordsLent s × PacketsLent l;
}

-- the records as values
abbrev pub decoded : Lent → State
decoded s = record { pointer = pointer_of s.pointer; picture = picture_of s.picture; image = s.image; marks = s.marks }

-- What an accepted packet makes of a picture's record that fits its layout fits it too: so what is written reads back.
abbrev pub StoredFits : Type 0
StoredFits = (q : Picture) (packet : List ℕ) → PictureFits q → Bytes packet → PictureFits (picture_after q (fragment_of packet))

-- A list of exported calls does by its records what it does by value.
abbrev pub RunDecoded : Type 0
RunDecoded =
    (s : Lent) (l : List Call) → RecordsLent s → PacketsLent l → decoded (run over_records s l) ≡ run by_value (decoded s) l

-- Demand 3, word for word, for the exported calls.
abbrev pub DemandThreeOverRecords : Type 0
DemandThreeOverRecords = DemandThree over_records
