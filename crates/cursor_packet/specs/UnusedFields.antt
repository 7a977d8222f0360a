-- Timestamp and SSRC, bytes 4 to 11 of a packet, are ignored (02 §2: "Two packets that differ only there give the same answer and state"), and
-- refusal 3 is for the first two bytes alone. The proofs stand in proofs/Laws/UnusedFields.antt. Assumes nothing.
use Rattle.std.specs.Prelude.{ℕ, ◌+◌, ◌≤◌, ◌≡◌, Bool, List, ◌⊎◌, ◌↔◌, length, get_or, take, drop}
use Rattle.wire.specs.Number.{number}
use Rattle.wire.specs.Status.{number_of}
use Rattle.wire.specs.Checks.{first_of}
use Rattle.cursor_packet.specs.Frame.{type_of, size_of, frame_checks}

-- two packets that "differ only there": one is as long as the other, and what stands before and what follows those eight bytes is the same
pub record SameButUnused (a b : List ℕ) : Type 0 where
  pub as_long : length a ≡ length b
  pub before : take 4 a ≡ take 4 b
  pub after : drop 12 a ≡ drop 12 b

-- All that a call takes from a packet is the same of both: the list of checks by a call that takes these types of these sizes, whatever they
-- are; a number that stands before or after those eight bytes; and what follows them.
pub record PartsAlike (a b : List ℕ) : Type 0 where
  pub checks
      : (types : ℕ → Bool) (sizes : ℕ → ℕ → Bool)
      → frame_checks (types (type_of a)) (sizes (type_of a) (size_of a)) a ≡ frame_checks (types (type_of b)) (sizes (type_of b) (size_of b)) b
  pub numbers : (n at : ℕ) → (at + n ≤ 4) ⊎ (12 ≤ at) → number n a at ≡ number n b at
  pub rest : (at : ℕ) → 12 ≤ at → drop at a ≡ drop at b

-- So it is of packets that differ only in timestamp and SSRC. What the readers make of these parts: crate cursor_fragment, UnusedFields.
abbrev pub UnusedIgnored : Type 0
UnusedIgnored = (a b : List ℕ) → SameButUnused a b → PartsAlike a b

-- the first byte is not 80 hex, or the second is not 0
abbrev pub FirstTwoWrong : List ℕ → Type 0
FirstTwoWrong p = (get_or p 0 0 ≡ 0x80 → ⊥) ⊎ (get_or p 1 0 ≡ 0 → ⊥)

-- a packet of 15 bytes or more, of which the first two are wrong
abbrev pub WrongRtp : List ℕ → Type 0
WrongRtp p = (15 ≤ length p) × FirstTwoWrong p

-- Refusal 3 is given exactly to such a packet, by a call that takes any types of any sizes.
abbrev pub ThreeExactly : Type 0
ThreeExactly = (taken fits : Bool) (p : List ℕ) → (number_of (first_of (frame_checks taken fits p)) ≡ 3) ↔ WrongRtp p
