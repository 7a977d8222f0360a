-- Statuses and their numbers. Assumes nothing.
use Rattle.std.proofs.Common.{◌≡◌, ◌≤◌, ◌<◌, sym, refl, ap, ◌∙◌, arith}
use Rattle.std.specs.Prelude.{Ok, Err}
use Rattle.wire.specs.declared.status.Refusal.{Refusal}
use Rattle.wire.specs.declared.status.Refusal.TheVariants as refusal
use Rattle.wire.specs.Status.{Status, refusal_number, number_of, status_for}

-- the number of a refusal is its own, at least 1, and small
numbered : (r : Refusal) → (status_for (refusal_number r) ≡ Err r) × (0 < refusal_number r) × (refusal_number r ≤ 18)
unfolding status_for
numbered refusal.Truncated = (refl, omega arith, omega arith)
numbered refusal.WrongSize = (refl, omega arith, omega arith)
numbered refusal.WrongHeader = (refl, omega arith, omega arith)
numbered refusal.UnknownKind = (refl, omega arith, omega arith)
numbered refusal.TlvTruncated = (refl, omega arith, omega arith)
numbered refusal.TlvLength = (refl, omega arith, omega arith)
numbered refusal.TlvRepeated = (refl, omega arith, omega arith)
numbered refusal.TlvUnexpected = (refl, omega arith, omega arith)
numbered refusal.OutsideImage = (refl, omega arith, omega arith)
numbered refusal.NoRoom = (refl, omega arith, omega arith)
numbered refusal.NotNewer = (refl, omega arith, omega arith)
numbered refusal.TotalDiffers = (refl, omega arith, omega arith)
numbered refusal.Conflict = (refl, omega arith, omega arith)
numbered refusal.UnexpectedEvent = (refl, omega arith, omega arith)
numbered refusal.OtherSource = (refl, omega arith, omega arith)
numbered refusal.NotGrammar = (refl, omega arith, omega arith)
numbered refusal.ImageNotHeld = (refl, omega arith, omega arith)
numbered refusal.NotWritable = (refl, omega arith, omega arith)

pub number_positive : (r : Refusal) → 0 < refusal_number r
number_positive r = (numbered r).1

pub status_back : (st : Status) → status_for (number_of st) ≡ st
unfolding status_for
status_back (Ok tt) = refl
status_back (Err r) = (numbered r).0

-- so the number tells the status
pub same_status : (st other : Status) → number_of st ≡ number_of other → st ≡ other
same_status st other e = sym (status_back st) ∙ ap status_for e ∙ status_back other

pub number_at_most : (st : Status) → number_of st ≤ 18
number_at_most (Ok u) = omega arith
number_at_most (Err r) = (numbered r).2
