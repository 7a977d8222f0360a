-- Rules of the session's table, each computed over all states and events. Assumes nothing.
use Prim.Native.Nat.{ℕ, ◌<◌}
use mathlib.Core.Path.{◌≡◌, refl}
use mathlib.Core.Bool.{Bool, true, false, not, cond, ◌&&◌, ◌||◌}
use native.Mathlib.Omega.{arith}
use borrow.Author.Tests.{leb-true}
use lib.Dec.{eqb, leb}
use Rattle.std.proofs.lemmas.List.{get_or-replicate}
use Rattle.wire.specs.Below.{all_below}
use Rattle.wire.proofs.Laws.Below.{below_all}
use Rattle.wire.proofs.Laws.Bool.{impossible, both}
use Rattle.session_table.specs.declared.record.State.{State}
use Rattle.session_table.specs.declared.record.State.TheVariants as state
use Rattle.session_table.specs.declared.table.Next.{Next}
use Rattle.session_table.specs.declared.table.Next.TheVariants.{NoEvent, Unexpected, CheckPin, PinOrReady, To}
use Rattle.session_table.specs.Table.{table, is_event}

-- whether a test holds of both answers, and of all states
unfoldable all_bools : (Bool → Bool) → Bool
all_bools p = p true && p false

unfoldable all_states : (State → Bool) → Bool
all_states p =
    p state.Waiting && (p state.Handshake && (p state.PinWait && (p state.ReadyWait && (p state.Projecting && p state.Closed))))

bools_all : (p : Bool → Bool) → all_bools p ≡ true → (b : Bool) → p b ≡ true
unfolding all_bools
bools_all p e true = (both (p true) (p false) e).0
bools_all p e false = (both (p true) (p false) e).1

states_all : (p : State → Bool) → all_states p ≡ true → (s : State) → p s ≡ true
unfolding all_states
states_all p e state.Waiting = (both (p state.Waiting) _ e).0
states_all p e state.Handshake = (both (p state.Handshake) _ (both (p state.Waiting) _ e).1).0
states_all p e state.PinWait = (both (p state.PinWait) _ (both (p state.Handshake) _ (both (p state.Waiting) _ e).1).1).0
states_all p e state.ReadyWait =
    (both (p state.ReadyWait) _ (both (p state.PinWait) _ (both (p state.Handshake) _ (both (p state.Waiting) _ e).1).1).1).0
states_all p e state.Projecting =
    (both (p state.Projecting) _
    (both (p state.ReadyWait) _ (both (p state.PinWait) _ (both (p state.Handshake) _ (both (p state.Waiting) _ e).1).1).1).1).0
states_all p e state.Closed =
    (both (p state.Projecting) _
    (both (p state.ReadyWait) _ (both (p state.PinWait) _ (both (p state.Handshake) _ (both (p state.Waiting) _ e).1).1).1).1).1

pub event_small : (event : ℕ) → is_event event ≡ true → event < 11
unfolding is_event
event_small event e = omega (arith, leb-true event 10 (both (leb 1 event) (leb event 10) e).1)

-- a rule that was computed over all states and events holds of each
each
    : (p : State → ℕ → Bool) → all_states (λ s. all_below 11 (p s)) ≡ true → (s : State) (event : ℕ) → is_event event ≡ true → p s event ≡ true
each p e s event known = below_all (p s) 11 (states_all (λ s. all_below 11 (p s)) e s) event (event_small event known)

abbrev pub implies : Bool → Bool → Bool
implies a b = not a || b

pub implied : (a b : Bool) → implies a b ≡ true → a ≡ true → b ≡ true
implied true b h e = h
implied false b h e = impossible (cc)

abbrev pub is_projecting : State → Bool
is_projecting state.Waiting = false
is_projecting state.Handshake = false
is_projecting state.PinWait = false
is_projecting state.ReadyWait = false
is_projecting state.Projecting = true
is_projecting state.Closed = false

-- the state that an entry leads to, where `pin` says whether the kept options ask for a PIN
abbrev pub state_after : Next → State → Bool → State
state_after NoEvent s pin = s
state_after Unexpected s pin = state.Closed
state_after CheckPin s pin = s
state_after PinOrReady s pin = cond pin state.PinWait state.ReadyWait
state_after (To t) s pin = t

abbrev pub is_taken : Next → Bool
is_taken NoEvent = false
is_taken Unexpected = false
is_taken CheckPin = true
is_taken PinOrReady = true
is_taken (To t) = true

-- in Closed nothing is expected
pub closed_row : (event : ℕ) → is_event event ≡ true → table state.Closed event ≡ Unexpected
closed_row event known = get_or-replicate 11 event Unexpected Unexpected (event_small event known)

-- Projecting is reached by a Source Ready that is taken
unfoldable pub by_ready : State → ℕ → Bool → Bool
by_ready s event pin =
    implies (is_projecting (state_after (table s event) s pin)) (is_projecting s || (eqb event 1 && is_taken (table s event)))

pub by_ready_lem : (s : State) (event : ℕ) (pin : Bool) → is_event event ≡ true → by_ready s event pin ≡ true
unfolding by_ready all_bools all_states all_below
by_ready_lem s event pin known =
    bools_all (by_ready s event) (each (λ s event. all_bools (by_ready s event)) refl s event known) pin

-- whether the kept options ask for a PIN, after a taken event
abbrev pub pin_after : State → ℕ → Bool → Bool → Bool
pin_after state.Waiting event kept asked = cond (eqb event 3) false (cond (eqb event 4) asked kept)
pin_after state.Handshake event kept asked = kept
pin_after state.PinWait event kept asked = kept
pin_after state.ReadyWait event kept asked = kept
pin_after state.Projecting event kept asked = kept
pin_after state.Closed event kept asked = kept

-- in Waiting no PIN is asked for; past PinWait, if one is, PIN right was there
abbrev pub sound : State → Bool → Bool → Bool
sound state.Waiting pin right = not pin
sound state.Handshake pin right = true
sound state.PinWait pin right = true
sound state.ReadyWait pin right = implies pin right
sound state.Projecting pin right = implies pin right
sound state.Closed pin right = true

-- a taken event keeps that
unfoldable pub stays_sound : State → ℕ → Bool → Bool → Bool → Bool
stays_sound s event pin asked right =
    implies (sound s pin right && is_taken (table s event))
    (sound (state_after (table s event) s pin) (pin_after s event pin asked) (right || eqb event 8))

pub stays_sound_lem : (s : State) (event : ℕ) (pin asked right : Bool) → is_event event ≡ true → stays_sound s event pin asked right ≡ true
unfolding stays_sound all_bools all_states all_below
stays_sound_lem s event pin asked right known =
    bools_all (stays_sound s event pin asked)
    (bools_all (λ asked. all_bools (stays_sound s event pin asked))
    (bools_all (λ pin. all_bools (λ asked. all_bools (stays_sound s event pin asked)))
    (each (λ s event. all_bools (λ pin. all_bools (λ asked. all_bools (stays_sound s event pin asked)))) refl s event known) pin) asked) right
