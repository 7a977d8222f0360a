-- Each line is followed by the lines of what is left, which is shorter; so one turn for each byte is enough. Assumes nothing.
use Prim.Native.Nat.{ℕ, zero, suc, ◌+◌, ◌≤◌, ◌<◌}
use mathlib.Core.Path.{◌≡◌, refl, ap, ◌∙◌}
use mathlib.Core.List.{List, [], ◌∷◌, ◌++◌}
use native.Mathlib.Omega.{arith}
use lib.ListN.{length, drop, length-append, length-drop}
use lib.Seq.{drop-append_seam, take-length}
use Rattle.message_rules.specs.declared.record.Message.{Message}
use Rattle.std.specs.Prelude.{Ok}
use Rattle.message_reader.specs.Reading.{command_in, read_message}
use Rattle.message_reader.specs.Theorems.{AcceptedExactly, AcceptedWellFormed}
use Rattle.message_reader.proofs.Laws.Reading.{accepted_exactly}
use Rattle.message_reader.proofs.Laws.WellFormed.{accepted_well_formed}
use Rattle.message_recording.specs.declared.line.Line.{Line}
use Rattle.message_recording.specs.declared.line.Line.TheVariants as line
use Rattle.message_recording.specs.Cut.{needed_of}
use Rattle.message_recording.specs.Line.{line_of}
use Rattle.message_recording.specs.Listing.{lines_after, lines_from, lines_at, listing}
use Rattle.message_recording.specs.Theorems.{ReadSoFarDecides, MessageExactly, EndExactly}
use Rattle.message_recording.specs.Theorems.{Listed, RecordingListed, joined, AllAccepted, lines_of, MessagesListed, EndListed}
use Rattle.message_recording.specs.Theorems as given
use Rattle.message_recording.proofs.Laws.Line.{needed_size, read_so_far_decides, message_exactly, end_exactly}

-- a message that is shown has four bytes or more, and all of them are there
pub message_size : (s : List ℕ) (c n : ℕ) → line_of s ≡ line.Message c n → (4 ≤ n) × (n ≤ length s)
unfolding MessageExactly
message_size s c n e = let w = ((message_exactly s c n).0 e).1 in (w.four, w.there)

-- ---- the lines, one by one

listed_after
    : (k place : ℕ) (s : List ℕ) (x : Line) → line_of s ≡ x → length s ≤ k
    → ((p : ℕ) (t : List ℕ) → length t < k → Listed p t (lines_from k p t)) → Listed place s ((place, x) ∷ lines_after (lines_from k) place s x)
unfolding EndExactly
listed_after k place s (line.Message c n) e h go =
    let w = message_size s c n e in
    let left = length-drop n s in
    given.went_on e w.0 w.1 (go (place + n) (drop n s) (omega (arith, w.0, w.1, left)))
listed_after k place s (line.Refused x) e h go = given.stopped e
listed_after k place s line.End e h go = rw ((end_exactly s).0 e) given.ended

listed_from : (k place : ℕ) (s : List ℕ) → length s < k → Listed place s (lines_from k place s)
unfolding lines_from
listed_from zero place s h = absurd (let no : ⊥ = omega arith in no)
listed_from (suc k) place s h = listed_after k place s (line_of s) refl (omega arith) (listed_from k)

pub recording_listed : RecordingListed
unfolding RecordingListed listing lines_at
recording_listed s = listed_from (suc (length s)) 0 s (omega arith)

-- ---- messages back to back

same_after
    : (k j place : ℕ) (s : List ℕ) (x : Line) → line_of s ≡ x → length s ≤ k → length s ≤ j
    → ((p : ℕ) (t : List ℕ) → length t < k → length t < j → lines_from k p t ≡ lines_from j p t)
    → lines_after (lines_from k) place s x ≡ lines_after (lines_from j) place s x
same_after k j place s (line.Message c n) e h l go =
    let w = message_size s c n e in
    let left = length-drop n s in
    go (place + n) (drop n s) (omega (arith, w.0, w.1, left)) (omega (arith, w.0, w.1, left))
same_after k j place s (line.Refused x) e h l go = refl
same_after k j place s line.End e h l go = refl

-- more turns than bytes: how many does not matter
same_lines : (k j place : ℕ) (s : List ℕ) → length s < k → length s < j → lines_from k place s ≡ lines_from j place s
unfolding lines_from
same_lines zero j place s h l = absurd (let no : ⊥ = omega arith in no)
same_lines (suc k) zero place s h l = absurd (let no : ⊥ = omega arith in no)
same_lines (suc k) (suc j) place s h l =
    ap (λ (r : List (ℕ × Line)). (place, line_of s) ∷ r)
    (same_after k j place s (line_of s) refl (omega arith) (omega arith) (λ p t a b. same_lines k j p t a b))

-- an accepted message, whatever follows it
accepted_line
    : (m t : List ℕ) (r : Message) → read_message m ≡ Ok r
    → (4 ≤ length m) × (line_of (m ++ t) ≡ line.Message (command_in m) (length m))
unfolding AcceptedExactly AcceptedWellFormed MessageExactly ReadSoFarDecides
accepted_line m t r e =
    let a = (accepted_exactly m r).0 e in
    let w = accepted_well_formed m r e in
    let four = a.headed.four in
    let alone : line_of m ≡ line.Message (command_in m) (length m)
    = (message_exactly m (command_in m) (length m)).1 r
    (record { size = w.size; four = four; there = omega arith; accepted = rw (take-length m) e; command = w.command }) in
    let size = w.size in
    let need : needed_of m ≤ length m = (let n = needed_size m four (omega arith) in omega arith) in
    (four, read_so_far_decides m t need ∙ alone)

lines_message
    : (m t : List ℕ) (r : Message) (place : ℕ) → read_message m ≡ Ok r
    → lines_at place (m ++ t) ≡ (place, line.Message (command_in m) (length m)) ∷ lines_at (place + length m) t
unfolding lines_at lines_from
lines_message m t r place e =
    let a = accepted_line m t r e in
    let n = length (m ++ t) in
    ap (λ (x : Line). (place, x) ∷ lines_after (lines_from n) place (m ++ t) x) a.1
    ∙ ap (λ (l : List (ℕ × Line)). (place, line.Message (command_in m) (length m)) ∷ l)
    (ap (lines_from n (place + length m)) (drop-append_seam m t)
    ∙ same_lines n (suc (length t)) (place + length m) t (simp length-append (omega (arith, a.0))) (omega arith))

lines_joined : (ms : List (List ℕ)) (t : List ℕ) (place : ℕ) → AllAccepted ms → lines_at place (joined ms t) ≡ lines_of place ms t
unfolding joined lines_of
lines_joined [] t place given.none = refl
lines_joined (m ∷ ms) t place (given.one e k) =
    lines_message m (joined ms t) _ place e
    ∙ ap (λ (l : List (ℕ × Line)). (place, line.Message (command_in m) (length m)) ∷ l) (lines_joined ms t (place + length m) k)

pub messages_listed : MessagesListed
unfolding MessagesListed listing
messages_listed ms t k = lines_joined ms t 0 k

pub end_listed : EndListed
unfolding EndListed lines_at lines_from line_of
end_listed place = refl
