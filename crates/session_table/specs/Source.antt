-- Which source a message comes from (01, "Sink session": "In an open state a message carrying a different one is 15"). Assumes nothing.
use Rattle.std.specs.Prelude.{ℕ, List, Bool, not, ◌&&◌, get_or, eqb}
use Rattle.wire.specs.Below.{all_below}
use Rattle.message_rules.specs.declared.accessors.SourceId.{SourceId}
use Rattle.message_rules.specs.Rules.{known_command}
use Rattle.session_table.specs.declared.record.Session.{Session}
use Rattle.session_table.specs.Record.{is_open}

-- a Source ID has 16 bytes
abbrev pub same_at : List ℕ → List ℕ → ℕ → Bool
same_at a b k = eqb (get_or a k 0) (get_or b k 0)

unfoldable pub same_bytes : List ℕ → List ℕ → Bool
same_bytes a b = all_below 16 (same_at a b)

-- "A step looks at a Source ID only with a message": the messages among the events are the commands that there are
unfoldable pub carried : ℕ → SourceId → Bool
carried event source = source.present && known_command event

-- the session is open and has kept a Source ID, and the event is a message that carries a different one
unfoldable pub other_source : Session → ℕ → SourceId → Bool
other_source s event source =
    is_open s.state && (carried event source && (s.source.present && not (same_bytes s.source.bytes source.bytes)))
