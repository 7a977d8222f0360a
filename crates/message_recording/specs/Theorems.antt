-- The theorems on listings, as named types, with 01's sentences. Their proofs stand in proofs/Laws. Assumes nothing.
use Rattle.std.specs.Prelude.{ℕ, ◌+◌, ◌≤◌, ◌<◌, ◌≡◌, List, [], ◌∷◌, ◌++◌, ◌⊎◌, length, take, drop, Ok}
use Rattle.wire.specs.declared.status.Refusal.{Refusal}
use Rattle.wire.specs.declared.status.Refusal.TheVariants as refusal
use Rattle.message_rules.specs.declared.record.Message.{Message}
use Rattle.message_reader.specs.Reading.{size_in, command_in, read_message}
use Rattle.wire.specs.Number.{Bytes}
use Rattle.message_recording.specs.declared.line.Line.{Line}
use Rattle.message_recording.specs.declared.line.Line.TheVariants as line
use Rattle.message_recording.specs.Cut.{needed_of}
use Rattle.message_recording.specs.Line.{shown, line_number, line_of}
use Rattle.message_recording.specs.Listing.{lines_at, listing}

-- ---- A file of any length, message by message

-- s was read from a place on, and is as much as is needed: whatever follows it in the recording, its line is the same.
unfoldable pub ReadSoFarDecides : Type 0
ReadSoFarDecides = (s rest : List ℕ) → needed_of s ≤ length s → line_of (s ++ rest) ≡ line_of s

-- Of all the bytes s from a place on, those that are needed decide the line, and any number more.
unfoldable pub FrontDecides : Type 0
FrontDecides = (s : List ℕ) (n : ℕ) → needed_of s ≤ n → line_of (take n s) ≡ line_of s

-- 65,535 bytes are enough for any line.
unfoldable pub BoundedNeed : Type 0
BoundedNeed = (s : List ℕ) → Bytes s → needed_of s ≤ 65535

-- ---- What a line shows

-- A message is shown exactly when it stands there whole, as its Size cuts it, and the reader accepts it: with its command and its size.
pub record Whole (s : List ℕ) (c n : ℕ) (m : Message) : Type 0 where
  pub size : size_in s ≡ n
  pub four : 4 ≤ n
  pub there : n ≤ length s
  pub accepted : read_message (take n s) ≡ Ok m
  pub command : m.command ≡ c

unfoldable pub MessageExactly : Type 0
MessageExactly =
    (s : List ℕ) (c n : ℕ)
    → (line_of s ≡ line.Message c n → (m : Message) × Whole s c n m)
    × ((m : Message) → Whole s c n m → line_of s ≡ line.Message c n)

-- The end is shown exactly when no bytes are left.
unfoldable pub EndExactly : Type 0
EndExactly = (s : List ℕ) → (line_of s ≡ line.End → s ≡ []) × (s ≡ [] → line_of s ≡ line.End)

-- "each cut by its own Size (fewer than 4 bytes left is 1, then a Size below 4 is 2)"; fewer bytes than Size are 1, and else the line shows the
-- reader's answer on the message that Size cuts off.
unfoldable pub CutBySize : Type 0
CutBySize =
    (s : List ℕ) → 0 < length s
    → (length s < 4 → line_of s ≡ line.Refused refusal.Truncated)
    × (4 ≤ length s → size_in s < 4 → line_of s ≡ line.Refused refusal.WrongSize)
    × (4 ≤ length s → length s < size_in s → line_of s ≡ line.Refused refusal.Truncated)
    × (4 ≤ size_in s → size_in s ≤ length s → line_of s ≡ shown (size_in s) (read_message (take (size_in s) s)))

-- 1 exactly where bytes are left, but fewer than the header's 4, or fewer than a Size that counts them.
abbrev pub CutShort : List ℕ → Type 0
CutShort s = (0 < length s) × ((length s < 4) ⊎ ((4 ≤ size_in s) × (length s < size_in s)))

unfoldable pub OneExactly : Type 0
OneExactly = (s : List ℕ) → (line_number (line_of s) ≡ 1 → CutShort s) × (CutShort s → line_number (line_of s) ≡ 1)

-- 2 exactly where the header is there and its Size doesn't count it. So neither is given for a message that its Size has cut off.
abbrev pub SizeBelow : List ℕ → Type 0
SizeBelow s = (4 ≤ length s) × (size_in s < 4)

unfoldable pub TwoExactly : Type 0
TwoExactly = (s : List ℕ) → (line_number (line_of s) ≡ 2 → SizeBelow s) × (SizeBelow s → line_number (line_of s) ≡ 2)

-- ---- The whole listing

-- What a listing of the bytes s is, which stand at `place` of the recording.
pub data Listed : ℕ → List ℕ → List (ℕ × Line) → Type 0 where
  -- no bytes left: the end, and nothing after it
  ended : {place : ℕ} → Listed place [] ((place, line.End) ∷ [])
  -- "It stops at the first refusal, shown with that place."
  stopped : {place : ℕ} {s : List ℕ} {r : Refusal} → line_of s ≡ line.Refused r → Listed place s ((place, line.Refused r) ∷ [])
  -- "one line each: its place in the file, command, size"; the next line is that of the place after the message, which is a later one
  went_on
      : {place : ℕ} {s : List ℕ} {c n : ℕ} {rest : List (ℕ × Line)} → line_of s ≡ line.Message c n → 4 ≤ n → n ≤ length s
      → Listed (place + n) (drop n s) rest → Listed place s ((place, line.Message c n) ∷ rest)

unfoldable pub RecordingListed : Type 0
RecordingListed = (s : List ℕ) → Listed 0 s (listing s)

-- Messages back to back, and then t.
unfoldable pub joined : List (List ℕ) → List ℕ → List ℕ
joined [] t = t
joined (m ∷ ms) t = m ++ joined ms t

pub data AllAccepted : List (List ℕ) → Type 0 where
  none : AllAccepted []
  one : {m : List ℕ} {ms : List (List ℕ)} {r : Message} → read_message m ≡ Ok r → AllAccepted ms → AllAccepted (m ∷ ms)

-- a line for each message, from `place` on, and then the lines of t
unfoldable pub lines_of : ℕ → List (List ℕ) → List ℕ → List (ℕ × Line)
lines_of place [] t = lines_at place t
lines_of place (m ∷ ms) t = (place, line.Message (command_in m) (length m)) ∷ lines_of (place + length m) ms t

-- "recorded messages back to back": each is shown once, in order; then what follows them is listed, and where nothing follows, the end.
unfoldable pub MessagesListed : Type 0
MessagesListed = (ms : List (List ℕ)) (t : List ℕ) → AllAccepted ms → listing (joined ms t) ≡ lines_of 0 ms t

unfoldable pub EndListed : Type 0
EndListed = (place : ℕ) → lines_at place [] ≡ (place, line.End) ∷ []
