-- What a step does not look at. Assumes nothing.
use Prim.Native.Nat.{ℕ}
use mathlib.Core.Path.{◌≡◌, refl}
use mathlib.Core.Bool.{Bool, true, false}
use borrow.Author.Tests.{ne_eqb}
use Rattle.message_rules.specs.Rules.{known_command}
use Rattle.wire.proofs.Laws.Bool.{and_false}
use Rattle.message_rules.specs.declared.accessors.SourceId.{SourceId}
use Rattle.session_table.specs.declared.record.State.{State}
use Rattle.session_table.specs.declared.record.State.TheVariants as state
use Rattle.session_table.specs.declared.record.Session.{Session}
use Rattle.session_table.specs.declared.table.Next.{Next}
use Rattle.session_table.specs.declared.table.Next.TheVariants.{NoEvent, Unexpected, CheckPin, PinOrReady, To}
use Rattle.session_table.specs.Source.{carried, other_source}
use Rattle.session_table.specs.Table.{table}
use Rattle.session_step.specs.Step.{pin_or_ready, options_from, options_after, source_after, accepted, follow, step_of}
use Rattle.session_step.specs.Theorems.{SourceUnseen, OptionsUnseen}

-- what the table says is done goes by the accepted step alone
followed
    : (n : Next) (s : Session) (event : ℕ) (x y : SourceId) (a b : ℕ)
    → ((to : State) (check : Bool) → accepted s to check event x a ≡ accepted s to check event y b) → follow n s event x a ≡ follow n s event y b
followed NoEvent s event x y a b h = refl
followed Unexpected s event x y a b h = refl
followed CheckPin s event x y a b h = h s.state true
followed PinOrReady s event x y a b h = h (pin_or_ready s.options) false
followed (To t) s event x y a b h = h t false

-- so does a step, but for the test of another source
stepped_same
    : (s : Session) (event : ℕ) (x y : SourceId) (a b : ℕ) → other_source s event x ≡ other_source s event y
    → ((to : State) (check : Bool) → accepted s to check event x a ≡ accepted s to check event y b) → step_of s event x a ≡ step_of s event y b
unfolding step_of
stepped_same s event x y a b o h = rw (o, followed (table s.state event) s event x y a b h)

none_carried : (event : ℕ) (x : SourceId) → known_command event ≡ false → carried event x ≡ false
unfolding carried
none_carried event x e = simp e (and_false x.present)

pub source_unseen : SourceUnseen
unfolding SourceUnseen other_source accepted source_after
source_unseen s event x y options e =
    let none : carried event x ≡ false = none_carried event x e in
    let none_other : carried event y ≡ false = none_carried event y e in
    stepped_same s event x y options options (simp (none, none_other)) (λ to check. simp (none, none_other))

options_unseen_after : (st : State) (event kept a b : ℕ) → (event ≡ 4 → ⊥) → options_after st event kept a ≡ options_after st event kept b
unfolding options_from
options_unseen_after state.Waiting event kept a b h = simp (ne_eqb event 4 h)
options_unseen_after state.Handshake event kept a b h = refl
options_unseen_after state.PinWait event kept a b h = refl
options_unseen_after state.ReadyWait event kept a b h = refl
options_unseen_after state.Projecting event kept a b h = refl
options_unseen_after state.Closed event kept a b h = refl

pub options_unseen : OptionsUnseen
unfolding OptionsUnseen accepted
options_unseen s event x a b h =
    stepped_same s event x x a b refl (λ to check. rw (options_unseen_after s.state event s.options a b h))
