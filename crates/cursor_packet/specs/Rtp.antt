-- The RTP header (003 section 2.2; 01, "Cursor packets": "first byte 80 hex, second 0, sequence (2), timestamp 0 (4), SSRC 0 (4)"; 02 §2 of
-- the last two: "From now on those eight bytes are ignored; the first two are judged as before"). Assumes nothing.
use Rattle.std.specs.Prelude.{ℕ, Bool, ◌&&◌, List, eqb, leb, length, get_or}
use Rattle.wire.specs.Number.{number}
use Rattle.cursor_packet.specs.declared.rtp.Rtp.{Rtp}

-- the header's 12 bytes are there, the first is 80 hex and the second 0
unfoldable pub rtp_holds : List ℕ → Bool
rtp_holds p = leb 12 (length p) && (eqb (get_or p 0 0) 0x80 && eqb (get_or p 1 0) 0)

unfoldable pub rtp_of : List ℕ → Rtp
rtp_of p = record { sequence = number 2 p 2 }
