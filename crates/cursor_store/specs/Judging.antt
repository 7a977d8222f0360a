-- The rules by which a fragment is judged (01, "Cursor packets": "Picture"): "A fragment of the opened id: other total 12; conflict 13;
-- otherwise its data goes into the middle of the picture .. This doesn't look at the sequence. A fragment of another id, start or
-- continuation, opens a picture if newer than the sequence that opened the present one, or if there is none .. Otherwise 11." Assumes
-- nothing.
use Rattle.std.specs.Prelude.{ℕ, ◌≡◌, Bool, true, false, not, cond, ◌&&◌, ◌||◌, List, [], ◌∷◌, eqb, length}
use Rattle.wire.specs.Sequence.{is_newer}
use Rattle.wire.specs.Splice.{part}
use Rattle.wire.specs.Status.{accept}
use Rattle.wire.specs.declared.status.Refusal.TheVariants as refusal
use Rattle.scan.specs.Conflict.{conflict_in}
use Rattle.wire.specs.Checks.{Check, refuse, first_of}
use Rattle.cursor_fragment.specs.declared.Fragment.{Fragment}
use Rattle.cursor_fragment.specs.Fragment.{starts, own_fields}
use Rattle.cursor_fragment.specs.Start.{same_start}
use Rattle.cursor_picture.specs.declared.Picture.{Picture}
use Rattle.cursor_picture.specs.Picture.{has_room}

-- a picture is opened, and the fragment is of its id
unfoldable pub of_opened : Picture → Fragment → Bool
of_opened q f = q.opened && eqb q.id f.id

-- the sequence number is newer than the one that opened the present picture, or there is none
abbrev pub opens : Picture → Fragment → Bool
opens q f = is_newer q.opened q.opening f.sequence

-- a second start differs in its own fields
unfoldable pub start_differs : Picture → Fragment → Bool
start_differs q f = starts f && (q.seen && not (same_start q.start (own_fields f)))

-- a filled place would get another byte: the data's own places are compared
unfoldable pub bytes_differ : ℕ → List ℕ → List ℕ → List ℕ → Bool
bytes_differ offset ds image marks = conflict_in (part offset (length ds) marks) (part offset (length ds) image) ds

-- the checks on a fragment f with the data ds, the record being q, and picture and marks being lent: of the opened id, 12 and 13
unfoldable pub opened_rules : Picture → Fragment → List ℕ → List ℕ → List ℕ → List Check
opened_rules q f ds image marks =
    refuse refusal.TotalDiffers (not (eqb q.total f.total))
    ∷ refuse refusal.Conflict (start_differs q f || bytes_differ f.offset ds image marks)
    ∷ []

-- of another id, or where no picture is opened, 11
unfoldable pub other_rules : Picture → Fragment → List Check
other_rules q f = refuse refusal.NotNewer (not (opens q f)) ∷ []

-- 10, then these rules
unfoldable pub judging : Picture → Fragment → List ℕ → List ℕ → List ℕ → List Check
judging q f ds image marks =
    refuse refusal.NoRoom (not (has_room f.total (length image) (length marks)))
    ∷ cond (of_opened q f) (opened_rules q f ds image marks) (other_rules q f)

-- The proofs of these laws stand in proofs/Laws/Judging.antt.

abbrev pub with_sequence : ℕ → Fragment → Fragment
with_sequence n f = record { sequence = n; total = f.total; id = f.id; offset = f.offset; start = f.start }

-- a fragment of the opened id is judged without a look at its sequence number: an old one is stored as a new one is
unfoldable pub SequenceIgnored : Type 0
SequenceIgnored =
    (n : ℕ) (q : Picture) (f : Fragment) (ds image marks : List ℕ) → of_opened q f ≡ true
    → first_of (judging q (with_sequence n f) ds image marks) ≡ first_of (judging q f ds image marks)

-- a fragment of another id with sequence number 0 opens a picture where the present one was opened by 65,535
unfoldable pub WrapOpens : Type 0
WrapOpens =
    (q : Picture) (f : Fragment) (ds image marks : List ℕ) → of_opened q f ≡ false → q.opening ≡ 65535 → f.sequence ≡ 0
    → has_room f.total (length image) (length marks) ≡ true → first_of (judging q f ds image marks) ≡ accept
