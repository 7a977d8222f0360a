-- The calls of the session by their outcomes. Assumes nothing.
use Prim.Native.Nat.{ℕ}
use mathlib.Core.Path.{◌≡◌, refl, sym, ◌∙◌, subst}
use mathlib.Core.Bool.{Bool, true, false, ◌&&◌, ◌||◌, beq}
use lib.Dec.{eqb, leb}
use mathlib.Core.List.{List}
use lib.ListN.{length}
use Rattle.message_rules.specs.Rules.{known_command}
use Rattle.message_rules.specs.declared.accessors.SourceId.{SourceId}
use Rattle.std.specs.Prelude.{Ok, Err}
use Rattle.message_reader.specs.Reading.{Answer, read_message}
use Rattle.message_rules.specs.Accessors.{source_of, options_of}
use Rattle.session_table.specs.declared.record.Session.{Session}
use Rattle.session_table.specs.Source.{same_bytes}
use Rattle.session_step.proofs.Laws.Unseen as unseen
use Rattle.session_step.proofs.Laws.Runs.{source_stays}
use Rattle.session_step.specs.Step.{step_of}
use Rattle.session_step.specs.Message.{after_read, on_message}
use Rattle.session_layout.specs.SessionLayout.{session_of}
use Rattle.session_table.proofs.Laws.Source.{same_itself}
use Rattle.std.specs.Cmp.{booleans_Decides}
use Rattle.session_calls.specs.SessionCalls.{SourceStays, source_in, lent_enough, session_step, LentSourceUnseen}

-- a Source ID beside no message
enough_unseen : (lent event : ℕ) (source : List ℕ) → known_command event ≡ false → lent_enough lent event source ≡ leb 19 lent
unfolding lent_enough
enough_unseen lent event source e = simp e (by (leb 19 lent) (eqb (length source) 0) (leb 16 (length source)))
  where
    by : (r p q : Bool) → r && (p || (q || true)) ≡ r
    by true true q = refl
    by true false true = refl
    by true false false = refl
    by false p q = refl

pub lent_source_unseen : LentSourceUnseen
unfolding LentSourceUnseen session_step Rattle.session_step.specs.Theorems.SourceUnseen
lent_source_unseen xs event a b options e =
    let enough : lent_enough (length xs) event a ≡ lent_enough (length xs) event b
    = enough_unseen (length xs) event a e ∙ sym (enough_unseen (length xs) event b e) in
    let same : step_of (session_of xs) event (source_in a) options ≡ step_of (session_of xs) event (source_in b) options
    = unseen.source_unseen (session_of xs) event (source_in a) (source_in b) options e in
    rw (enough, same)

-- ---- the same session

-- what a step makes of a session, by an event and by a message
pub event_stays
    : (s : Session) (event : ℕ) (source : SourceId) (options : ℕ) → SourceStays s (step_of s event source options).session
event_stays s event source options = source_stays s (record { number = event; source = source; options = options })

pub message_stays : (s : Session) (bytes : List ℕ) → SourceStays s (on_message s bytes).session
unfolding on_message
message_stays s bytes = by (read_message bytes)
  where
    by : (a : Answer) → SourceStays s (after_read bytes s a).session
    by (Ok m) = event_stays s m.command (source_of bytes m) (options_of bytes m)
    by (Err r) = λ h. refl

-- the flag then decides on the Source ID
pub flag_decides
    : (a b : Session) → SourceStays a b
    → beq a.source.present b.source.present ≡ beq a.source.present b.source.present && same_bytes a.source.bytes b.source.bytes
flag_decides a b h = by (beq a.source.present b.source.present) refl
  where
    by : (v : Bool) → beq a.source.present b.source.present ≡ v → v ≡ v && same_bytes a.source.bytes b.source.bytes
    by true e =
        let same : a.source ≡ b.source = h ((booleans_Decides a.source.present b.source.present).0 e) in
        sym (subst (λ (x : SourceId). same_bytes a.source.bytes x.bytes ≡ true) same (same_itself a.source.bytes))
    by false e = refl
