-- The listing of a recording (01, "Session listing"): lines with their places. Assumes nothing.
use Rattle.std.specs.Prelude.{ℕ, zero, suc, ◌+◌, List, [], ◌∷◌, length, drop}
use Rattle.message_recording.specs.declared.line.Line.{Line}
use Rattle.message_recording.specs.declared.line.Line.TheVariants as line
use Rattle.message_recording.specs.Line.{line_of}

-- the lines after one: those from the place after a message on; none after a refusal, and none after the end
abbrev pub lines_after : (ℕ → List ℕ → List (ℕ × Line)) → ℕ → List ℕ → Line → List (ℕ × Line)
lines_after rest place s (line.Message c n) = rest (place + n) (drop n s)
lines_after rest place s (line.Refused r) = []
lines_after rest place s line.End = []

-- the lines of the bytes s, which stand at `place`, at most k of them
unfoldable pub lines_from : ℕ → ℕ → List ℕ → List (ℕ × Line)
lines_from zero place s = []
lines_from (suc k) place s = (place, line_of s) ∷ lines_after (lines_from k) place s (line_of s)

-- all of them: a message has four bytes or more, so there is at most one line more than there are bytes
unfoldable pub lines_at : ℕ → List ℕ → List (ℕ × Line)
lines_at place s = lines_from (suc (length s)) place s

unfoldable pub listing : List ℕ → List (ℕ × Line)
listing s = lines_at 0 s
