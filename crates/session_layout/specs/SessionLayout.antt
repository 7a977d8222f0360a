-- The session as bytes. Assumes nothing.
use Rattle.std.specs.Prelude.{ℕ, ◌≤◌, ◌<◌, ◌≡◌, List, ◌++◌, Bool, true, ◌&&◌, eqb, length, drop, replicate}
use Rattle.std.specs.Bool.{beq}
use Rattle.scan.specs.Bytes.{copied}
use Rattle.message_rules.specs.declared.accessors.SourceId.{SourceId}
use Rattle.session_table.specs.declared.record.Session.{Session}
use Rattle.session_table.specs.Record.{state_of, state_number}
use Rattle.session_table.specs.Source.{same_bytes}
use Rattle.wire.specs.Laid.{laid}
use Rattle.wire.specs.Layout.{flag, is_set}
use Rattle.wire.specs.LittleEndian.{number_at, bytes}

-- the 16 bytes from a place on; a byte past the end counts as 0
unfoldable pub id_at : ℕ → List ℕ → List ℕ
id_at at xs = copied (drop at xs) (replicate 16 0)

-- a Source ID with these, and whether there is one
abbrev pub source_at : Bool → ℕ → List ℕ → SourceId
source_at present at xs = record { present = present; bytes = id_at at xs }

-- its bytes
unfoldable pub session_bytes : Session → List ℕ
session_bytes s = bytes 1 (state_number s.state) ++ bytes 1 s.options ++ bytes 1 (flag s.source.present) ++ s.source.bytes

-- the session in bytes
unfoldable pub session_of : List ℕ → Session
session_of xs =
    record {
      state = state_of (number_at 1 xs 0);
      options = number_at 1 xs 1;
      source = source_at (is_set (number_at 1 xs 2)) 3 xs;
    }

-- whether two sessions are the same: the state, the options, whether a Source ID is kept, and its 16 bytes
unfoldable pub same_session : Session → Session → Bool
same_session a b =
    eqb (state_number a.state) (state_number b.state)
    && (eqb a.options b.options
    && (beq a.source.present b.source.present && same_bytes a.source.bytes b.source.bytes))

-- The proofs stand in proofs/Laws/SessionLayout.antt.

-- What is written reads back, where the options are one byte and the Source ID has its 16.
unfoldable pub SessionReadsBack : Type 0
SessionReadsBack =
    (s : Session) (xs : List ℕ) → s.options < 256 → length s.source.bytes ≡ 16 → 19 ≤ length xs
    → session_of (laid (session_bytes s) xs) ≡ s

-- Where two are the same, they are equal; and each is the same as itself.
unfoldable pub SameIsEqual : Type 0
SameIsEqual = (a b : Session) → length a.source.bytes ≡ 16 → length b.source.bytes ≡ 16 → same_session a b ≡ true → a ≡ b

unfoldable pub SameAsItself : Type 0
SameAsItself = (s : Session) → same_session s s ≡ true
