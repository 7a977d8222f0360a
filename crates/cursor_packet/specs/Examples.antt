-- Small examples of this crate's definitions, P9 of 01, "Proved table of small examples", among them. Each is computed.
use Rattle.std.specs.Prelude.{ℕ, ◌≡◌, refl, List, [], ◌∷◌, ◌++◌, pos, negsuc, take, Ok, Err}
use Rattle.std.proofs.Common.{inl, inr, arith}
use Rattle.wire.specs.Number.{number_in}
use Rattle.wire.specs.Signed.{signed}
use Rattle.wire.specs.declared.status.Refusal.TheVariants as refusal
use Rattle.wire.specs.Status.{refused_at}
use Rattle.wire.specs.Checks.{first_of}
use Rattle.cursor_packet.specs.Rtp.{rtp_holds}
use Rattle.cursor_packet.specs.Frame.{frame_checks}
use Rattle.cursor_packet.specs.Position.{position_checks, position_at, read_position}
use Rattle.cursor_packet.specs.UnusedFields.{SameButUnused, WrongRtp}

-- an RTP header with a sequence number below 256
abbrev pub rtp : ℕ → List ℕ
rtp sequence = 0x80 ∷ 0 ∷ 0 ∷ sequence ∷ 0 ∷ 0 ∷ 0 ∷ 0 ∷ 0 ∷ 0 ∷ 0 ∷ 0 ∷ []

-- P9: position −2 (`negsuc 1`), 10
pub p9
    : read_position (rtp 5 ++ (1 ∷ 0 ∷ 7 ∷ 0xff ∷ 0xfe ∷ 0 ∷ 0x0a ∷ [])) ≡ Ok (record { sequence = 5; x = negsuc 1; y = pos 10 })
unfolding read_position position_checks position_at first_of frame_checks rtp_holds number_in signed
p9 = refl

-- the order: a wrong type before a wrong size; the call takes its own type
pub in_order
    : (read_position (rtp 5 ++ (2 ∷ 0 ∷ 7 ∷ [])) ≡ Err (refused_at refusal.UnknownKind 0))
    × (read_position (rtp 5 ++ (1 ∷ 0 ∷ 8 ∷ [])) ≡ Err (refused_at refusal.WrongSize 0))
unfolding read_position position_checks position_at first_of frame_checks rtp_holds number_in signed
in_order = (refl, refl)

-- 02 §2: the same header with timestamp and SSRC filled
abbrev pub filled : ℕ → List ℕ
filled sequence = 0x80 ∷ 0 ∷ 0 ∷ sequence ∷ 0x11 ∷ 0x22 ∷ 0x33 ∷ 0x44 ∷ 0xaa ∷ 0xbb ∷ 0xcc ∷ 0xdd ∷ []

-- P9 with it: the same position
pub p9_filled
    : read_position (filled 5 ++ (1 ∷ 0 ∷ 7 ∷ 0xff ∷ 0xfe ∷ 0 ∷ 0x0a ∷ [])) ≡ Ok (record { sequence = 5; x = negsuc 1; y = pos 10 })
unfolding read_position position_checks position_at first_of frame_checks rtp_holds number_in signed
p9_filled = refl

-- P9 so filled, with these first two bytes
abbrev pub beginning : ℕ → ℕ → List ℕ
beginning first second =
    first ∷ second ∷ 0 ∷ 5 ∷ 0x11 ∷ 0x22 ∷ 0x33 ∷ 0x44 ∷ 0xaa ∷ 0xbb ∷ 0xcc ∷ 0xdd ∷ 1 ∷ 0 ∷ 7 ∷ 0xff ∷ 0xfe ∷ 0 ∷ 0x0a ∷ []

-- another first byte, another second one, and the first 14 bytes with either
pub first_two
    : (read_position (beginning 0x81 0) ≡ Err (refused_at refusal.WrongHeader 0))
    × (read_position (beginning 0x80 1) ≡ Err (refused_at refusal.WrongHeader 0))
    × (read_position (take 14 (beginning 0x80 0)) ≡ Err (refused_at refusal.Truncated 0))
    × (read_position (take 14 (beginning 0x81 0)) ≡ Err (refused_at refusal.Truncated 0))
unfolding read_position position_checks position_at first_of frame_checks rtp_holds number_in signed
first_two = (refl, refl, refl, refl)

-- The premises of the theorems are met.

-- UnusedIgnored: whatever follows, the two headers make such packets
pub same_but_unused : (sequence : ℕ) (body : List ℕ) → SameButUnused (rtp sequence ++ body) (filled sequence ++ body)
same_but_unused sequence body = record { as_long = refl; before = refl; after = refl }

-- ThreeExactly: a packet with either byte wrong
pub wrong_header : WrongRtp (beginning 0x81 0) × WrongRtp (beginning 0x80 1)
wrong_header = ((omega arith, inl (λ e. omega arith)), (omega arith, inr (λ e. omega arith)))

-- Without a premise: NumberByChecks.
