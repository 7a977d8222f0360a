-- The paper's number of each refusal and status (01, "Refusal numbers"). Assumes nothing.
use Rattle.std.specs.Prelude.{ℕ, Bool, true, false, List, [], ◌∷◌, slice_index_or, Result, Ok, Err}
use Rattle.wire.specs.declared.status.Refusal.{Refusal}
use Rattle.wire.specs.declared.status.Refusal.TheVariants as refusal
use Rattle.wire.specs.declared.status.Refused.{Refused}

-- what a call answers: that it accepts, or the refusal
abbrev pub Status : Type 0
Status = Result (Unit {0}) Refusal

abbrev pub accept : Status
accept = Ok tt

abbrev pub refusal_number : Refusal → ℕ
refusal_number refusal.Truncated = 1
refusal_number refusal.WrongSize = 2
refusal_number refusal.WrongHeader = 3
refusal_number refusal.UnknownKind = 4
refusal_number refusal.TlvTruncated = 5
refusal_number refusal.TlvLength = 6
refusal_number refusal.TlvRepeated = 7
refusal_number refusal.TlvUnexpected = 8
refusal_number refusal.OutsideImage = 9
refusal_number refusal.NoRoom = 10
refusal_number refusal.NotNewer = 11
refusal_number refusal.TotalDiffers = 12
refusal_number refusal.Conflict = 13
refusal_number refusal.UnexpectedEvent = 14
refusal_number refusal.OtherSource = 15
refusal_number refusal.NotGrammar = 16
refusal_number refusal.ImageNotHeld = 17
refusal_number refusal.NotWritable = 18

-- 0 where it accepts
abbrev pub number_of : Status → ℕ
number_of (Ok x) = 0
number_of (Err r) = refusal_number r

abbrev pub accepted : Status → Bool
accepted (Ok x) = true
accepted (Err r) = false

-- a value where the checks before it accept, else their refusal
abbrev pub passed : {A : Type 0} → Status → A → Result A Refusal
passed (Ok u) x = Ok x
passed (Err r) x = Err r

-- a refusal with its place
abbrev pub refused_at : Refusal → ℕ → Refused
refused_at r at = record { refusal = r; place = at }

abbrev pub placed : {A : Type 0} → Result A Refusal → ℕ → Result A Refused
placed (Ok x) at = Ok x
placed (Err r) at = Err (refused_at r at)

-- the statuses in the order of their numbers
abbrev pub statuses : List Status
statuses =
    accept ∷
    Err refusal.Truncated ∷
    Err refusal.WrongSize ∷
    Err refusal.WrongHeader ∷
    Err refusal.UnknownKind ∷
    Err refusal.TlvTruncated ∷
    Err refusal.TlvLength ∷
    Err refusal.TlvRepeated ∷
    Err refusal.TlvUnexpected ∷
    Err refusal.OutsideImage ∷
    Err refusal.NoRoom ∷
    Err refusal.NotNewer ∷
    Err refusal.TotalDiffers ∷
    Err refusal.Conflict ∷
    Err refusal.UnexpectedEvent ∷
    Err refusal.OtherSource ∷
    Err refusal.NotGrammar ∷
    Err refusal.ImageNotHeld ∷
    Err refusal.NotWritable ∷ []

-- the status of a number; one above 18 is no refusal's, and is an unknown kind
unfoldable pub status_for : ℕ → Status
status_for n = slice_index_or statuses n (Err refusal.UnknownKind)
