-- Lines one after the other. Assumes nothing.
use Rattle.std.proofs.Common.{◌≡◌, ℕ, ◌+◌, ◌-◌, ◌<◌, Bool, true, false, cond, is_some, List, [], ◌++◌, length, take, drop, sym, refl, subst, append-nil, arith, length-drop, length-take-le, leb-false}
use Rattle.wire.proofs.Laws.Bool.{not_both}
use Rattle.message_recording.specs.declared.line.Line.{Line}
use Rattle.message_recording.specs.declared.line.Line.TheVariants as line
use Rattle.message_recording.specs.Cut.{needed_of}
use Rattle.message_recording.specs.Line.{line_of}
use Rattle.wire.specs.Number.{Bytes}
use Rattle.message_recording.specs.Theorems.{BoundedNeed}
use Rattle.message_recording.proofs.Laws.Line.{bounded_need}
use Rattle.message_recording.proofs.Laws.Listing.{message_size}
use Rattle.listing.specs.declared.State.{State}
use Rattle.listing.specs.State.{Within, state_after, decided, unlisted, Shown, none, one, Lines}
use Rattle.listing.specs.Text.{text_of, Put}
use Rattle.listing.proofs.Laws.Buffer.{part_bytes}
use Rattle.listing.proofs.Laws.Text.{put_then}

-- bytes that decide no line are fewer than it needs
undecided : (ended : Bool) (s : List ℕ) → decided ended s ≡ false → length s < needed_of s
undecided true s e = not_both true refl e
undecided false s e = leb-false (needed_of s) (length s) e

-- no line yet
pub lines_none : (buf out : List ℕ) (st : State) → Lines buf out st st out
lines_none buf out st =
    record { text = []; shown = none; put = record { place = omega arith; bytes = sym (append-nil (take st.used out)) } }

-- one more
pub lines_more
    : {buf before out after : List ℕ} {st mid r : State} → Lines buf before st mid out → decided mid.ended (unlisted buf mid) ≡ true
    → r ≡ state_after mid (line_of (unlisted buf mid)) r.used
    → Put out mid.used (text_of mid.place (line_of (unlisted buf mid))) r.used after → Lines buf before st r after
lines_more {buf} {before} {out} {after} {st} {mid} {r} l d e p =
    let text = l.text ++ text_of mid.place (line_of (unlisted buf mid)) in
    record { text = text; shown = subst (λ (s : State). Shown buf st text s) (sym e) (one l.shown d r.used); put = put_then l.put p }

-- what is left to do: the bytes that are not listed yet, and one more while the listing goes on
abbrev pub left : State → ℕ
left st = cond (is_some st.verdict) 0 1 + (st.to - st.from)

-- a line leaves less
after_less
    : (st : State) (s : List ℕ) (x : Line) (used : ℕ) → line_of s ≡ x → is_some st.verdict ≡ false → st.from + length s ≡ st.to
    → left (state_after st x used) < left st
after_less st s (line.Message c n) used e g h = let w = message_size s c n e in rw g (omega (arith, w.0, w.1))
after_less st s (line.Refused x) used e g h = rw g (omega arith)
after_less st s line.End used e g h = rw g (omega arith)

-- the bytes that are not listed yet are those from `from` to `to`
pub unlisted_length : (buf out : List ℕ) (st : State) → Within buf out st → st.from + length (unlisted buf st) ≡ st.to
unlisted_length buf out st w =
    let d = length-drop st.from buf in
    let t = length-take-le (st.to - st.from) (drop st.from buf) (omega (arith, w.inside)) in
    omega (arith, w.ordered)

-- where they decide no line, the buffer has room for more
pub undecided_room
    : (buf out : List ℕ) (st : State) → Within buf out st → Bytes buf → decided st.ended (unlisted buf st) ≡ false
    → st.to < st.from + length buf
unfolding BoundedNeed
undecided_room buf out st w b e =
    let few = undecided st.ended (unlisted buf st) e in
    let most = bounded_need (unlisted buf st) (part_bytes buf st.from (st.to - st.from) b) in
    omega (arith, unlisted_length buf out st w, w.large)

pub line_less
    : (buf out : List ℕ) (st r : State) → Within buf out st → is_some st.verdict ≡ false → r ≡ state_after st (line_of (unlisted buf st)) r.used
    → left r < left st
line_less buf out st r w g e =
    let s = unlisted buf st in
    rw e (after_less st s (line_of s) r.used refl g (unlisted_length buf out st w))
