-- The theorems of specs/Theorems.antt. A step goes one of three ways (`Way`), and each theorem takes them one by one. Assumes nothing.
use Prim.Native.Nat.{ℕ}
use mathlib.Core.Path.{◌≡◌, refl, sym, ap, ◌∙◌, subst}
use mathlib.Core.List.{List, [], ◌∷◌}
use mathlib.Core.Logic.{◌⊎◌, inl, inr}
use mathlib.Core.Bool.{Bool, true, false, cond, ◌&&◌, ◌||◌}
use borrow.Author.Tests.{eqb-true}
use Rattle.std.proofs.Math.Bool.{and-true, or_assoc}
use lib.Dec.{eqb}
use Rattle.std.specs.Prelude.{Err, is_ok}
use Rattle.wire.specs.declared.status.Refusal.{Refusal}
use Rattle.wire.specs.declared.status.Refusal.TheVariants as refusal
use Rattle.wire.specs.declared.status.Refused.{Refused}
use Rattle.wire.specs.Status.{refusal_number, refused_at}
use Rattle.wire.proofs.Laws.Bool.{impossible, either, not_both, both}
use Rattle.message_rules.specs.declared.accessors.SourceId.{SourceId}
use Rattle.session_table.specs.declared.record.State.{State}
use Rattle.session_table.specs.declared.record.State.TheVariants as state
use Rattle.session_table.specs.declared.record.Session.{Session}
use Rattle.session_table.specs.declared.table.Next.{Next}
use Rattle.session_table.specs.declared.table.Next.TheVariants.{NoEvent, Unexpected, CheckPin, PinOrReady, To}
use Rattle.message_rules.specs.Accessors.{no_source}
use Rattle.session_table.specs.Record.{fresh_session, is_open}
use Rattle.session_table.specs.Source.{carried, other_source}
use Rattle.session_table.specs.Table.{table, is_event}
use Rattle.session_table.proofs.Laws.Table.{implied, is_projecting, state_after, is_taken, pin_after, sound, closed_row, by_ready, by_ready_lem, stays_sound, stays_sound_lem}
use Rattle.session_step.specs.declared.step.Stepped.{Stepped}
use Rattle.session_step.specs.Step.{wants_pin, pin_or_ready, options_from, options_after, source_after, accepted, refused, closed, follow, step_of}
use Rattle.session_step.specs.Runs.{Event, stepped, next, run, is_accepted, first_source, pin_right}
use Rattle.session_step.specs.Theorems.{ClosedRefuses, ClosedForGood, RefusalKeeps, FirstIsKept, KeptForGood, OtherChangesNothing, ReachedByReady, PinBeforeProjecting}
use Rattle.session_step.proofs.Laws.Step.{carried_event, step_other}

abbrev entry : Session → Event → Next
entry s e = table s.state e.number

abbrev follows : Next → Session → Event → Stepped
follows n s e = follow n s e.number e.source e.options

abbrev takes : Next → Bool → Session → Event → Stepped
takes n check s e = accepted s (state_after n s.state (wants_pin s.options)) check e.number e.source e.options

-- the ways of a step: no such event, another source, unexpected, or taken
data Way (s : Session) (e : Event) : Type 0 where
  no_event : stepped s e ≡ refused refusal.UnknownKind 0 s → Way s e
  other : is_open s.state ≡ true → stepped s e ≡ refused refusal.OtherSource 0 s → Way s e
  unexpected : stepped s e ≡ refused refusal.UnexpectedEvent 0 (closed s) → Way s e
  taken : is_event e.number ≡ true → is_taken (entry s e) ≡ true → (check : Bool) → stepped s e ≡ takes (entry s e) check s e → Way s e

entered : (s : Session) (e : Event) (n : Next) → is_event e.number ≡ true → entry s e ≡ n → stepped s e ≡ follows n s e → Way s e
unfolding pin_or_ready
entered s e NoEvent known p q = no_event q
entered s e Unexpected known p q = unexpected q
entered s e CheckPin known p q = taken known (ap is_taken p) true (q ∙ sym (ap (λ (n : Next). takes n true s e) p))
entered s e PinOrReady known p q = taken known (ap is_taken p) false (q ∙ sym (ap (λ (n : Next). takes n false s e) p))
entered s e (To t) known p q = taken known (ap is_taken p) false (q ∙ sym (ap (λ (n : Next). takes n false s e) p))

way : (s : Session) (e : Event) → Way s e
unfolding step_of other_source
way s e = by (is_event e.number) (other_source s e.number e.source) refl refl
  where
    by : (a b : Bool) → is_event e.number ≡ a → other_source s e.number e.source ≡ b → Way s e
    by false b p q = no_event (simp p)
    by true true p q = other (both (is_open s.state) _ q).0 (step_other s e.number e.source e.options q)
    by true false p q = entered s e (entry s e) p refl (simp (p, q))

never : {A : Type 0} → true ≡ false → A
never e = not_both true refl e

-- a closed session, closed again, is the same
closed_same : (s : Session) → s.state ≡ state.Closed → closed s ≡ s
closed_same s e = ap {B = Session} (λ (st : State). record { state = st; options = s.options; source = s.source }) (sym e)

is_closed_lem : (st : State) → is_open st ≡ false → st ≡ state.Closed
is_closed_lem state.Waiting e = never e
is_closed_lem state.Handshake e = never e
is_closed_lem state.PinWait e = never e
is_closed_lem state.ReadyWait e = never e
is_closed_lem state.Projecting e = never e
is_closed_lem state.Closed e = refl

pub closed_refuses : ClosedRefuses
unfolding ClosedRefuses step_of other_source
closed_refuses s e c known =
    simp (known, ap is_open c) (rw (c, closed_row e.number known, closed_same s c))

-- an event that is none changes nothing, and another in Closed neither
closed_next : (s : Session) (e : Event) → s.state ≡ state.Closed → next s e ≡ s
closed_next s e c = by (way s e)
  where
    by : Way s e → next s e ≡ s
    by (no_event q) = ap (λ (r : Stepped). r.session) q
    by (other o q) = never (sym o ∙ ap is_open c)
    by (unexpected q) = ap (λ (r : Stepped). r.session) q ∙ closed_same s c
    by (taken known t check q) = never (sym t ∙ rw (c, closed_row e.number known))

pub closed_for_good : ClosedForGood
unfolding ClosedForGood run
closed_for_good s [] c = refl
closed_for_good s (e ∷ l) c = rw (closed_next s e c) (closed_for_good s l c)

-- an event is accepted exactly if it goes the last way
taken_accepted : (s : Session) (e : Event) (n : Next) (check : Bool) → stepped s e ≡ takes n check s e → is_accepted s e ≡ true
unfolding accepted
taken_accepted s e n check q = ap (λ (r : Stepped). is_ok r.answer) q

-- what a refused step answers and leaves
abbrev Kept : Session → Refused → Stepped → Type 0
Kept s r x = x ≡ refused r.refusal 0 (cond (eqb (refusal_number r.refusal) 14 && is_open s.state) (closed s) s)

pub refusal_keeps : RefusalKeeps
unfolding RefusalKeeps
refusal_keeps s e r a = by (way s e)
  where
    closes : is_open s.state ≡ true ⊎ is_open s.state ≡ false → closed s ≡ cond (is_open s.state) (closed s) s
    closes (inl o) = simp o
    closes (inr o) = simp o (closed_same s (is_closed_lem s.state o))

    at : (k : Refusal) (t : Session) → stepped s e ≡ refused k 0 t
        → t ≡ cond (eqb (refusal_number k) 14 && is_open s.state) (closed s) s → Kept s r (stepped s e)
    at k t q h =
        let given : Err r ≡ Err (refused_at k 0) = sym a ∙ ap (λ (x : Stepped). x.answer) q in
        let same : r ≡ refused_at k 0 = cc in
        rw same (q ∙ ap (refused k 0) h)

    by : Way s e → Kept s r (stepped s e)
    by (no_event q) = at refusal.UnknownKind s q refl
    by (other o q) = at refusal.OtherSource s q refl
    by (unexpected q) = at refusal.UnexpectedEvent (closed s) q (closes (either (is_open s.state)))
    by (taken known t check q) = never (sym (taken_accepted s e (entry s e) check q) ∙ ap is_ok a)

-- what becomes of the Source ID
source_next
    : (s : Session) (e : Event) → (next s e).source ≡ cond (is_accepted s e) (source_after s.source e.number e.source) s.source
unfolding accepted
source_next s e = by (way s e)
  where
    at : (r : Stepped) → stepped s e ≡ r → r.session.source ≡ cond (is_ok r.answer) (source_after s.source e.number e.source) s.source
        → (next s e).source ≡ cond (is_accepted s e) (source_after s.source e.number e.source) s.source
    at r q h = subst (λ (x : Stepped). x.session.source ≡ cond (is_ok x.answer) (source_after s.source e.number e.source) s.source) (sym q) h

    by : Way s e → (next s e).source ≡ cond (is_accepted s e) (source_after s.source e.number e.source) s.source
    by (no_event q) = at _ q refl
    by (other o q) = at _ q refl
    by (unexpected q) = at _ q refl
    by (taken known t check q) = at _ q refl

carried_present : (event : ℕ) (x : SourceId) → carried event x ≡ true → x.present ≡ true
unfolding carried
carried_present event x e = (both x.present _ e).0

-- the Source ID stays where it stays the same whether one is kept
after_stays
    : (kept : SourceId) (event : ℕ) (x : SourceId) → kept.present ≡ (source_after kept event x).present → kept ≡ source_after kept event x
unfolding source_after
after_stays kept event x h = by kept.present (carried event x) refl refl
  where
    by : (p q : Bool) → kept.present ≡ p → carried event x ≡ q → kept ≡ source_after kept event x
    by true q e f = simp e
    by false true e f =
        let taken : source_after kept event x ≡ x = simp (e, f) in
        never (sym (carried_present event x f) ∙ ap (λ (y : SourceId). y.present) (sym taken) ∙ sym h ∙ e)
    by false false e f = simp (e, f)

pub source_stays : (s : Session) (e : Event) → s.source.present ≡ (next s e).source.present → s.source ≡ (next s e).source
source_stays s e h = by (is_accepted s e) (h ∙ ap (λ (y : SourceId). y.present) (source_next s e)) ∙ sym (source_next s e)
  where
    by : (b : Bool) → s.source.present ≡ (cond b (source_after s.source e.number e.source) s.source).present
        → s.source ≡ cond b (source_after s.source e.number e.source) s.source
    by true = after_stays s.source e.number e.source
    by false = λ h. refl

kept_next : (s : Session) (e : Event) → s.source.present ≡ true → (next s e).source ≡ s.source
unfolding source_after
kept_next s e p = source_next s e ∙ by (is_accepted s e)
  where
    by : (b : Bool) → cond b (source_after s.source e.number e.source) s.source ≡ s.source
    by true = simp p
    by false = refl

pub kept_for_good : KeptForGood
unfolding KeptForGood run
kept_for_good s [] p = refl
kept_for_good s (e ∷ l) p =
    let k = kept_next s e p in
    kept_for_good (next s e) l (ap (λ (x : SourceId). x.present) k ∙ p) ∙ k

-- a session that has kept no Source ID keeps the first
none_next
    : (s : Session) (e : Event) → s.source ≡ no_source
    → (next s e).source ≡ cond (is_accepted s e && carried e.number e.source) e.source no_source
unfolding source_after
none_next s e p =
    source_next s e
    ∙ ap (λ (x : SourceId). cond (is_accepted s e) (source_after x e.number e.source) x) p
    ∙ by (is_accepted s e)
  where
    by : (b : Bool)
        → cond b (source_after no_source e.number e.source) no_source
        ≡ cond (b && carried e.number e.source) e.source no_source
    by true = refl
    by false = refl

first_kept : (s : Session) (l : List Event) → s.source ≡ no_source → (run s l).source ≡ first_source s l
unfolding run first_source KeptForGood
first_kept s [] p = p
first_kept s (e ∷ l) p = by (is_accepted s e && carried e.number e.source) refl (first_kept (next s e) l)
  where
    by : (b : Bool) → is_accepted s e && carried e.number e.source ≡ b
        → ((next s e).source ≡ no_source → (run (next s e) l).source ≡ first_source (next s e) l)
        → (run (next s e) l).source ≡ cond (is_accepted s e && carried e.number e.source) e.source (first_source (next s e) l)
    by true h rest =
        let k : (next s e).source ≡ e.source = none_next s e p ∙ simp h in
        let there = carried_present e.number e.source (both (is_accepted s e) (carried e.number e.source) h).1 in
        kept_for_good (next s e) l (ap (λ (x : SourceId). x.present) k ∙ there) ∙ k ∙ simp h
    by false h rest = rest (none_next s e p ∙ simp h) ∙ simp h

pub first_is_kept : FirstIsKept
unfolding FirstIsKept
first_is_kept l = first_kept fresh_session l refl

pub other_changes_nothing : OtherChangesNothing
unfolding OtherChangesNothing ClosedRefuses other_source
other_changes_nothing s e kept c differs = let r = by (either (is_open s.state)) in (r, ap (λ (r : Stepped). r.session) r)
  where
    by : is_open s.state ≡ true ⊎ is_open s.state ≡ false
        → stepped s e ≡ refused (cond (is_open s.state) refusal.OtherSource refusal.UnexpectedEvent) 0 s
    by (inl o) = step_other s e.number e.source e.options (simp (o, c, kept, differs)) ∙ simp o
    by (inr o) = closed_refuses s e (is_closed_lem s.state o) (carried_event e.number e.source c) ∙ simp o

is_projecting_lem : (st : State) → is_projecting st ≡ true → st ≡ state.Projecting
is_projecting_lem state.Waiting e = never (sym e)
is_projecting_lem state.Handshake e = never (sym e)
is_projecting_lem state.PinWait e = never (sym e)
is_projecting_lem state.ReadyWait e = never (sym e)
is_projecting_lem state.Projecting e = refl
is_projecting_lem state.Closed e = never (sym e)

abbrev Reached : Session → Event → Type 0
Reached s e = (s.state ≡ state.Projecting) ⊎ ((e.number ≡ 1) × (is_accepted s e ≡ true))

pub reached_by_ready : ReachedByReady
unfolding ReachedByReady accepted by_ready
reached_by_ready s e p = by (way s e)
  where
    ready : (a b : Bool) → is_projecting s.state ≡ a → eqb e.number 1 ≡ b → is_accepted s e ≡ true → a || (b && is_taken (entry s e)) ≡ true → Reached s e
    ready true b x y t h = inl (is_projecting_lem s.state x)
    ready false true x y t h = inr (eqb-true e.number 1 y, t)
    ready false false x y t h = never (sym h)

    by : Way s e → Reached s e
    by (no_event q) = inl (sym (ap (λ (r : Stepped). r.session.state) q) ∙ p)
    by (other o q) = inl (sym (ap (λ (r : Stepped). r.session.state) q) ∙ p)
    by (unexpected q) = impossible (cc (sym (ap (λ (r : Stepped). r.session.state) q) ∙ p))
    by (taken known t check q) =
        let there : is_projecting (state_after (entry s e) s.state (wants_pin s.options)) ≡ true
        = ap is_projecting (sym (ap (λ (r : Stepped). r.session.state) q) ∙ p) in
        ready _ _ refl refl (taken_accepted s e (entry s e) check q)
        (implied _ _ (by_ready_lem s.state e.number (wants_pin s.options) known) there)

-- whether the kept options ask for a PIN, after an accepted event
wants_no_pin : wants_pin 0 ≡ false
unfolding wants_pin
wants_no_pin = refl

pin_from : (event kept options : ℕ) → wants_pin (options_from event kept options) ≡ cond (eqb event 3) false (cond (eqb event 4) (wants_pin options) (wants_pin kept))
unfolding options_from
pin_from event kept options = by (eqb event 3) (eqb event 4)
  where
    by : (a b : Bool) → wants_pin (cond a 0 (cond b options kept)) ≡ cond a false (cond b (wants_pin options) (wants_pin kept))
    by true b = wants_no_pin
    by false true = refl
    by false false = refl

pin_after_lem : (st : State) (event kept options : ℕ) → wants_pin (options_after st event kept options) ≡ pin_after st event (wants_pin kept) (wants_pin options)
pin_after_lem state.Waiting event kept options = pin_from event kept options
pin_after_lem state.Handshake event kept options = refl
pin_after_lem state.PinWait event kept options = refl
pin_after_lem state.ReadyWait event kept options = refl
pin_after_lem state.Projecting event kept options = refl
pin_after_lem state.Closed event kept options = refl

abbrev soundly : Session → Bool → Bool
soundly s right = sound s.state (wants_pin s.options) right

-- PIN right that was there stays there
more_sound : (st : State) (pin right again : Bool) → sound st pin right ≡ true → sound st pin (right || again) ≡ true
more_sound state.Waiting pin right again h = h
more_sound state.Handshake pin right again h = refl
more_sound state.PinWait pin right again h = refl
more_sound state.ReadyWait pin true again h = h
more_sound state.ReadyWait true false again h = never (sym h)
more_sound state.ReadyWait false false again h = refl
more_sound state.Projecting pin true again h = h
more_sound state.Projecting true false again h = never (sym h)
more_sound state.Projecting false false again h = refl
more_sound state.Closed pin right again h = refl

sound_next : (s : Session) (e : Event) (right : Bool) → soundly s right ≡ true → soundly (next s e) (right || (eqb e.number 8 && is_accepted s e)) ≡ true
unfolding accepted stays_sound
sound_next s e right h = by (way s e)
  where
    again : Bool
    again = eqb e.number 8 && is_accepted s e

    by : Way s e → soundly (next s e) (right || again) ≡ true
    by (no_event q) = subst (λ (r : Stepped). soundly r.session (right || again) ≡ true) (sym q) (more_sound s.state _ right again h)
    by (other o q) = subst (λ (r : Stepped). soundly r.session (right || again) ≡ true) (sym q) (more_sound s.state _ right again h)
    by (unexpected q) = subst (λ (r : Stepped). soundly r.session (right || again) ≡ true) (sym q) refl
    by (taken known t check q) =
        let a : again ≡ eqb e.number 8 = rw (taken_accepted s e (entry s e) check q) (and-true (eqb e.number 8)) in
        let pin = pin_after_lem s.state e.number s.options e.options in
        let stays = implied (soundly s right && is_taken (entry s e)) _ (stays_sound_lem s.state e.number (wants_pin s.options) (wants_pin e.options) right known) (simp (h, t)) in
        subst (λ (r : Stepped). soundly r.session (right || again) ≡ true) (sym q) (rw (pin, a) stays)

sound_run : (s : Session) (l : List Event) (right : Bool) → soundly s right ≡ true → soundly (run s l) (right || pin_right s l) ≡ true
unfolding run pin_right
sound_run s [] right h = more_sound s.state _ right false h
sound_run s (e ∷ l) right h = subst (λ (b : Bool). soundly (run (next s e) l) b ≡ true) (or_assoc right _ _) (sound_run (next s e) l _ (sound_next s e right h))

pub pin_before_projecting : PinBeforeProjecting
unfolding PinBeforeProjecting
pin_before_projecting l p w =
    let h : soundly (run fresh_session l) (pin_right fresh_session l) ≡ true = sound_run fresh_session l false (simp wants_no_pin) in
    let pinned : sound state.Projecting true (pin_right fresh_session l) ≡ true = rw (p, w) at h in
    pinned
