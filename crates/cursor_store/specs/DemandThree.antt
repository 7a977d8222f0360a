-- Demand 3, a single claim about a list of calls, sentence by sentence, of a receiver R: of the calls by value its proof stands in
-- proofs/Laws/DemandThree.antt; of the calls that hosts make, in crate cursor_calls. Assumes nothing.
use Rattle.std.specs.Prelude.{ℕ, ◌<◌, ◌≡◌, ◌⊎◌, ◌↔◌, Bool, true, false, ◌||◌, List, [], ◌∷◌, length, get_or}
use Rattle.scan.specs.Empty.{filled_at}
use Rattle.wire.specs.Status.{accepted}
use Rattle.cursor_fragment.specs.Fragment.{is_start, own_fields, fragment_of, fragment_status, data_of}
use Rattle.cursor_fragment.specs.declared.start.Start.{Start}
use Rattle.cursor_picture.specs.Picture.{held}
use Rattle.wire.specs.Splice.{part}
use Rattle.cursor_store.specs.Receiver.{Call, fragment, other, covers, Receiver, run}

-- one whole picture under its id; its total is the number of its bytes
pub record Whole : Type 0 where
  pub id : ℕ
  pub image : List ℕ

abbrev pub total_of : Whole → ℕ
total_of w = length w.image

-- The premises.

-- "Take a picture already opened under an id and clear of refusal 17, its filled places agreeing with one whole picture."
pub record OpenedAs (R : Receiver) (w : Whole) (s : R.State) : Type 0 where
  pub opened : (R.picture s).opened ≡ true
  pub same_id : (R.picture s).id ≡ w.id
  pub same_total : (R.picture s).total ≡ total_of w
  pub clear : held (R.picture s) (length (R.image s)) (length (R.marks s)) ≡ true
  pub agreeing : (i : ℕ) → i < total_of w → filled_at (R.marks s) i ≡ true → get_or (R.image s) i 0 ≡ get_or w.image i 0

-- "well-formed fragments of that id and total, cut from the whole picture": refusals 1 to 4 and 9 don't apply, and the data are that
-- picture's bytes at the places that the fragment covers
pub record CutFrom (w : Whole) (packet : List ℕ) : Type 0 where
  pub well_formed : accepted (fragment_status packet) ≡ true
  pub same_id : (fragment_of packet).id ≡ w.id
  pub same_total : (fragment_of packet).total ≡ total_of w
  pub same_bytes : data_of packet ≡ part (fragment_of packet).offset (length (data_of packet)) w.image

-- "From there take any list of calls for starts and continuations, with [such] fragments .., in any order, any number of times. Among
-- them may stand any such calls, whatever their bytes, that are refused at their turn."
abbrev pub Taken : (R : Receiver) → Whole → R.State → List Call → Type 0
Taken R w s [] = Unit {0}
Taken R w s (fragment packet ∷ l) = CutFrom w packet × Taken R w (R.next s packet) l
Taken R w s (other packet ∷ l) = (R.accepts s packet ≡ false) × Taken R w (R.next s packet) l

-- each start of the list has the start fields a
abbrev pub StartsHave : Start → List Call → Type 0
StartsHave a [] = Unit {0}
StartsHave a (fragment packet ∷ l) = (is_start packet ≡ true → own_fields (fragment_of packet) ≡ a) × StartsHave a l
StartsHave a (other packet ∷ l) = StartsHave a l

-- "their starts agreeing with each other and with any start fields already seen": there are start fields that each of these has
pub record Agreeing (R : Receiver) (s : R.State) (l : List Call) : Type 0 where
  pub common : Start
  pub seen : (R.picture s).seen ≡ true → (R.picture s).start ≡ common
  pub starts : StartsHave common l

pub record Given (R : Receiver) (w : Whole) (s : R.State) (l : List Call) : Type 0 where
  pub asked : R.Asked s l
  pub opened : OpenedAs R w s
  pub taken : Taken R w s l
  pub agreeing : Agreeing R s l

-- The conclusions.

-- one of these fragments covers the place i
unfoldable pub covered : List Call → ℕ → Bool
covered [] i = false
covered (fragment packet ∷ l) i = covers packet i || covered l i
covered (other packet ∷ l) i = covered l i

-- one of these fragments is a start
unfoldable pub started : List Call → Bool
started [] = false
started (fragment packet ∷ l) = is_start packet || started l
started (other packet ∷ l) = started l

-- each of these fragments is accepted
abbrev pub AllAccepted : (R : Receiver) → R.State → List Call → Type 0
AllAccepted R s [] = Unit {0}
AllAccepted R s (fragment packet ∷ l) = (R.accepts s packet ≡ true) × AllAccepted R (R.next s packet) l
AllAccepted R s (other packet ∷ l) = AllAccepted R (R.next s packet) l

-- "Fragments are the same if type, offset, data and start fields are" (01); a continuation's start fields are 0.
pub record SameFragment (packet packet' : List ℕ) : Type 0 where
  pub same_type : is_start packet ≡ is_start packet'
  pub same_offset : (fragment_of packet).offset ≡ (fragment_of packet').offset
  pub same_data : data_of packet ≡ data_of packet'
  pub same_start : own_fields (fragment_of packet) ≡ own_fields (fragment_of packet')

-- one of these fragments in the list is the same as the packet's
abbrev pub Among : List ℕ → List Call → Type 0
Among packet [] = ⊥
Among packet (fragment packet' ∷ l) = SameFragment packet packet' ⊎ Among packet l
Among packet (other packet' ∷ l) = Among packet l

-- each of these fragments in the first list is among those in the second
abbrev pub Within : List Call → List Call → Type 0
Within [] l' = Unit {0}
Within (fragment packet ∷ l) l' = Among packet l' × Within l l'
Within (other packet ∷ l) l' = Within l l'

-- "with the same of these fragments in each, whatever their order and repeats"
abbrev pub SameFragments : List Call → List Call → Type 0
SameFragments l l' = Within l l' × Within l' l

-- "the same lent picture and marks, byte for byte, and the same start fields"
pub record SameEnd (R : Receiver) (s s' : R.State) : Type 0 where
  pub image : R.image s ≡ R.image s'
  pub marks : R.marks s ≡ R.marks s'
  pub seen : (R.picture s).seen ≡ (R.picture s').seen
  pub start : (R.picture s).start ≡ (R.picture s').start

pub record Shown (R : Receiver) (w : Whole) (s : R.State) (l : List Call) : Type 0 where
  -- "For every such list each of these fragments is accepted."
  pub each_accepted : AllAccepted R s l
  -- "After it a place is filled exactly if it was before or one of these fragments covers it,
  pub filled : (i : ℕ) → filled_at (R.marks (run R s l)) i ≡ (covered l i || filled_at (R.marks s) i)
  -- and then holds the whole picture's byte."
  pub whole_byte : (i : ℕ) → i < total_of w → filled_at (R.marks (run R s l)) i ≡ true → get_or (R.image (run R s l)) i 0 ≡ get_or w.image i 0
  -- "The completeness question then answers yes exactly when a start was seen before or is one of these fragments, and every place is
  -- filled."
  pub complete
      : R.Complete (run R s l)
      ↔ (((started l || (R.picture s).seen) ≡ true) × ((i : ℕ) → i < total_of w → filled_at (R.marks (run R s l)) i ≡ true))
  -- "Any two such lists from the same state, with the same of these fragments in each, whatever their order and repeats, leave the same
  -- lent picture and marks, byte for byte, and the same start fields."
  pub same : (l' : List Call) → Given R w s l' → SameFragments l l' → SameEnd R (run R s l) (run R s l')

abbrev pub DemandThree : Receiver → Type 0
DemandThree R = (w : Whole) (s : R.State) (l : List Call) → Given R w s l → Shown R w s l
