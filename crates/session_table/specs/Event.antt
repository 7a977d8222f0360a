-- The events by number: 1 to 6 the commands of messages, 7 to 10 what the host tells. Assumes nothing.
use Rattle.std.specs.Prelude.{ℕ, ◌≡◌, false, Result, MatchResult}
use Rattle.session_table.specs.declared.event.Event.{Event}
use Rattle.session_table.specs.declared.event.Event.TheVariants as event
use Rattle.session_table.specs.declared.event.NoSuchEvent.{NoSuchEvent}
use Rattle.session_table.specs.Table.{is_event}

abbrev pub number_of : Event → ℕ
number_of event.SourceReady = 1
number_of event.StopProjection = 2
number_of event.SecurityHandshake = 3
number_of event.SessionRequest = 4
number_of event.PinChallenge = 5
number_of event.PinResponse = 6
number_of event.HandshakeDone = 7
number_of event.PinRight = 8
number_of event.PinWrong = 9
number_of event.ConnectionLost = 10

-- the event with this number, or that there is none
abbrev pub Numbered : ℕ → Result Event NoSuchEvent → Type 0
Numbered n r = MatchResult r (λ e. number_of e ≡ n) (λ _. is_event n ≡ false)
