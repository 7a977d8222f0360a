-- The table of the session, as 01, "Sink session", has it: a row for each state, a column for each event. Assumes nothing.
use Rattle.std.specs.Prelude.{ℕ, List, [], ◌∷◌, Bool, cond, ◌&&◌, get_or, leb}
use Rattle.session_table.specs.declared.record.State.{State}
use Rattle.session_table.specs.declared.record.State.TheVariants as state
use Rattle.session_table.specs.declared.table.Next.{Next}
use Rattle.session_table.specs.declared.table.Next.TheVariants.{NoEvent, Unexpected, CheckPin, PinOrReady, To}

-- everything else: 14
abbrev other : Next
other = Unexpected

-- to a state
abbrev to_handshake : Next
to_handshake = To state.Handshake

abbrev to_ready_wait : Next
to_ready_wait = To state.ReadyWait

abbrev to_projecting : Next
to_projecting = To state.Projecting

abbrev to_closed : Next
to_closed = To state.Closed

-- The columns: 1 Source Ready, 2 Stop Projection, 3 Security Handshake, 4 Session Request, 5 PIN Challenge, 6 PIN Response, 7 handshake done,
-- 8 PIN right, 9 PIN wrong, 10 connection lost.
abbrev pub row_of : State → List Next
row_of state.Waiting = to_projecting ∷ to_closed ∷ to_handshake ∷ to_handshake ∷ other ∷ other ∷ other ∷ other ∷ other ∷ to_closed ∷ []
row_of state.Handshake = other ∷ to_closed ∷ to_handshake ∷ other ∷ other ∷ other ∷ PinOrReady ∷ other ∷ other ∷ to_closed ∷ []
row_of state.PinWait = other ∷ to_closed ∷ other ∷ other ∷ CheckPin ∷ other ∷ other ∷ to_ready_wait ∷ to_closed ∷ to_closed ∷ []
row_of state.ReadyWait = to_projecting ∷ to_closed ∷ other ∷ other ∷ other ∷ other ∷ other ∷ other ∷ other ∷ to_closed ∷ []
row_of state.Projecting = other ∷ to_closed ∷ other ∷ other ∷ other ∷ other ∷ other ∷ other ∷ other ∷ to_closed ∷ []
row_of state.Closed = other ∷ other ∷ other ∷ other ∷ other ∷ other ∷ other ∷ other ∷ other ∷ other ∷ []

-- the entry of a state and an event; there is no event 0
abbrev pub table : State → ℕ → Next
table s event = get_or (other ∷ row_of s) event other

-- the events are 1 to 10: the six commands by number, and four from the host
unfoldable pub is_event : ℕ → Bool
is_event event = leb 1 event && leb event 10

-- the entry, or that there is no such event
unfoldable pub expected_of : ℕ → State → Next
expected_of event s = cond (is_event event) (table s event) NoEvent
