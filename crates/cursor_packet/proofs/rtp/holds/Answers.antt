-- The first two bytes are tested as one number. Assumes nothing.
use Prim.Native.Nat.{ℕ}
use native.Mathlib.Omega.{arith}
use borrow.Author.Tests.{lt-leb, le-leb}
use Rattle.wire.specs.Number.{Bytes}
use Rattle.cursor_packet.specs.Rtp.{rtp_holds}
use Rattle.cursor_packet.proofs.Laws.Rtp.{first_two}
use Rattle.cursor_packet.proofs.rtp.holds.Goals as goal

pub returns-then-packet-ge-HEADER : goal.returns-then-packet-ge-HEADER
unfolding rtp_holds
returns-then-packet-ge-HEADER c = let small : Bytes c.args.packet.now = λ (i : ℕ). omega (arith, c.type_inv.packet i) in
    simp (le-leb 12 _ c.if-packet-ge-HEADER.true) (rw c.read.ensures (first_two c.args.packet.now 0x80 0 small (omega arith)))

pub returns-else-packet-ge-HEADER : goal.returns-else-packet-ge-HEADER
unfolding rtp_holds
returns-else-packet-ge-HEADER c = simp (lt-leb 12 _ c.if-packet-ge-HEADER.false)
