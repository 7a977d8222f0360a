-- The step, by the answers of its tests. Assumes nothing.
use Prim.Native.Nat.{ℕ}
use mathlib.Core.Path.{◌≡◌}
use mathlib.Core.Bool.{true, not, ◌&&◌}
use native.Mathlib.Omega.{arith}
use borrow.Author.Tests.{le-leb, leb-true}
use lib.Dec.{leb}
use Rattle.message_rules.specs.Rules.{known_command}
use Rattle.wire.proofs.Laws.Bool.{both}
use Rattle.wire.specs.declared.status.Refusal.TheVariants as refusal
use Rattle.message_rules.specs.declared.accessors.SourceId.{SourceId}
use Rattle.session_table.specs.declared.record.Session.{Session}
use Rattle.session_table.specs.Record.{is_open}
use Rattle.session_table.specs.Source.{same_bytes, carried, other_source}
use Rattle.session_table.specs.Table.{is_event}
use Rattle.session_step.specs.Step.{refused, step_of}

-- a message is an event
pub carried_event : (event : ℕ) (x : SourceId) → carried event x ≡ true → is_event event ≡ true
unfolding known_command carried is_event
carried_event event x e =
    let h = both (leb 1 event) (leb event 6) (both x.present (known_command event) e).1 in
    simp (h.0, le-leb event 10 (omega (arith, leb-true event 6 h.1)))

-- only a message is of another source
other_event : (s : Session) (event : ℕ) (x : SourceId) → other_source s event x ≡ true → is_event event ≡ true
unfolding other_source
other_event s event x e =
    let r = (both (is_open s.state) (carried event x && (s.source.present && not (same_bytes s.source.bytes x.bytes))) e).1 in
    carried_event event x (both (carried event x) (s.source.present && not (same_bytes s.source.bytes x.bytes)) r).0

pub step_other
    : (s : Session) (event : ℕ) (x : SourceId) (options : ℕ) → other_source s event x ≡ true → step_of s event x options ≡ refused refusal.OtherSource 0 s
unfolding step_of
step_other s event x options e = simp (other_event s event x e, e)
