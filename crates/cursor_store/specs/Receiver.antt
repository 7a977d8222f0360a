-- What demand 3 speaks of: a receiver that takes starts and continuations, one call after the other (01, "Cursor packets": "Each call gets the
-- records, picture and marks that the last one returned or left; nobody else writes them meanwhile"). Assumes nothing.
use Rattle.std.specs.Prelude.{ℕ, ◌+◌, Bool, ◌&&◌, List, [], ◌∷◌, leb, ltb, length}
use Rattle.cursor_fragment.specs.Fragment.{fragment_of, data_of}
use Rattle.cursor_picture.specs.declared.Picture.{Picture}

-- a call is given by the bytes of its packet; `fragment`: one of the fragments that demand 3 speaks of; `other`: any other
pub data Call : Type 0 where
  fragment : List ℕ → Call
  other : List ℕ → Call

-- the packet of a call
abbrev pub packet_of : Call → List ℕ
packet_of (fragment packet) = packet
packet_of (other packet) = packet

-- "A fragment covers one place for each data byte, from its offset on".
abbrev pub covers : List ℕ → ℕ → Bool
covers packet i = leb (fragment_of packet).offset i && ltb i ((fragment_of packet).offset + length (data_of packet))

-- How a host keeps the state between calls, and what a call makes of it: by value (`Calls.by_value`), or over lent records (crate
-- cursor_calls).
pub record Receiver : Type 1 where
  pub State : Type 0
  -- the record of the opened picture, and the lent picture and marks
  pub picture : State → Picture
  pub image : State → List ℕ
  pub marks : State → List ℕ
  -- whether the call with this packet is accepted, and the state after it
  pub accepts : State → List ℕ → Bool
  pub next : State → List ℕ → State
  -- the completeness question answers yes
  pub Complete : State → Type 0
  -- what is asked of a state and of the packets besides: by value nothing
  pub Asked : State → List Call → Type 0

-- the state after a list of calls
unfoldable pub run : (R : Receiver) → R.State → List Call → R.State
run R s [] = s
run R s (c ∷ l) = run R (R.next s (packet_of c)) l
