-- Small examples of the session as bytes. Each is computed. Assumes nothing.
use Rattle.std.specs.Prelude.{ℕ, ◌≤◌, ◌<◌, ◌≡◌, refl, List, [], ◌∷◌, ◌++◌, true, false, length, replicate}
use Rattle.std.proofs.Common.{arith}
use Rattle.wire.specs.Below.{all_below}
use Rattle.wire.specs.Laid.{laid}
use Rattle.wire.specs.LittleEndian.{number_at}
use Rattle.wire.specs.Number.{number_in, bytes_in}
use Rattle.wire.specs.Splice.{splice}
use Rattle.scan.specs.Bytes.{copied}
use Rattle.session_table.specs.declared.record.State.TheVariants as state
use Rattle.session_table.specs.declared.record.Session.{Session}
use Rattle.session_table.specs.Source.{same_bytes}
use Rattle.session_layout.specs.SessionLayout.{id_at, session_bytes, session_of, same_session}
use Rattle.session_table.specs.Record.{state_of}

abbrev pub projecting : Session
projecting = record { state = state.Projecting; options = 3; source = record { present = true; bytes = replicate 16 7 } }

pub as_bytes : session_bytes projecting ≡ 4 ∷ 3 ∷ 1 ∷ replicate 16 7
unfolding session_bytes bytes_in
as_bytes = refl

-- as a host may lend it: a state above 5 is Closed, a flag of 9 is yes
pub lent_unusual : session_of (200 ∷ 3 ∷ 9 ∷ replicate 16 7) ≡ record { state = state.Closed; options = 3; source = projecting.source }
unfolding session_of state_of number_at number_in id_at copied splice
lent_unusual = refl

-- The premises of the theorems are met. Beside them stands what the theorem then says, computed.
-- Without a premise: SameAsItself.

-- 20 bytes that are lent
abbrev pub lent : List ℕ
lent = replicate 20 255

-- SessionReadsBack: over them, of which the last stays
pub session_reads_back_met
    : (projecting.options < 256)
    × (length projecting.source.bytes ≡ 16)
    × (19 ≤ length lent)
    × (laid (session_bytes projecting) lent ≡ session_bytes projecting ++ (255 ∷ []))
    × (session_of (laid (session_bytes projecting) lent) ≡ projecting)
unfolding session_of state_of number_at number_in id_at copied splice session_bytes bytes_in laid
session_reads_back_met = (omega arith, refl, omega arith, refl, refl)

-- SameIsEqual: what reads back is the same; another state is not
pub same_is_equal_met
    : (length (session_of (4 ∷ 3 ∷ 9 ∷ replicate 16 7)).source.bytes ≡ 16)
    × (length projecting.source.bytes ≡ 16)
    × (same_session (session_of (4 ∷ 3 ∷ 9 ∷ replicate 16 7)) projecting ≡ true)
    × (same_session (session_of (3 ∷ 3 ∷ 9 ∷ replicate 16 7)) projecting ≡ false)
unfolding session_of state_of number_at number_in id_at copied splice same_session same_bytes all_below
same_is_equal_met = (refl, refl, refl, refl)
