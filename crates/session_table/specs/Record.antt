-- The session record (01, "Sink session"). Assumes nothing.
use Rattle.std.specs.Prelude.{ℕ, [], ◌∷◌, Bool, true, false, get_or}
use Rattle.message_rules.specs.Accessors.{no_source}
use Rattle.session_table.specs.declared.record.State.{State}
use Rattle.session_table.specs.declared.record.State.TheVariants as state
use Rattle.session_table.specs.declared.record.Session.{Session}

-- the session of a new connection
abbrev pub fresh_session : Session
fresh_session = record { state = state.Waiting; options = 0; source = no_source }

-- every state but Closed is open
abbrev pub is_open : State → Bool
is_open state.Waiting = true
is_open state.Handshake = true
is_open state.PinWait = true
is_open state.ReadyWait = true
is_open state.Projecting = true
is_open state.Closed = false

-- the numbers of the states, from 0 on; any greater number is Closed
unfoldable pub state_of : ℕ → State
state_of n = get_or (state.Waiting ∷ state.Handshake ∷ state.PinWait ∷ state.ReadyWait ∷ state.Projecting ∷ []) n state.Closed

abbrev pub state_number : State → ℕ
state_number state.Waiting = 0
state_number state.Handshake = 1
state_number state.PinWait = 2
state_number state.ReadyWait = 3
state_number state.Projecting = 4
state_number state.Closed = 5
