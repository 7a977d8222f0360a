-- Where the listing stands. Assumes nothing.
use Rattle.std.specs.Prelude.{◌≡◌, ℕ, ◌+◌, ◌-◌, ◌%◌, ◌^◌, ◌≤◌, Bool, true, false, cond, List, [], ◌++◌, length, take, drop, nat_le, Some, is_some}
use Rattle.message_recording.specs.Cut.{needed_of}
use Rattle.message_recording.specs.Line.{line_of}
use Rattle.message_recording.specs.declared.line.Line.{Line}
use Rattle.message_recording.specs.declared.line.Line.TheVariants as line
use Rattle.listing.specs.declared.State.{State}
use Rattle.listing.specs.declared.Verdict.TheVariants as verdict
use Rattle.listing.specs.Text.{Put, text_of}

-- what is read and not listed lies in the buffer, which has room for the largest message and more, and what is to be written in the output,
-- which has room for a line
pub record Within (buf out : List ℕ) (st : State) : Type 0 where
  pub ordered : st.from ≤ st.to
  pub inside : st.to ≤ length buf
  pub large : 65536 ≤ length buf
  pub fits : st.used ≤ length out
  pub room : 64 ≤ length out

-- after a line, with `used` bytes of lines: on after a message, and no further, with a verdict, after a refusal or the end
abbrev pub state_after : State → Line → ℕ → State
state_after st (line.Message c n) used =
    record { from = st.from + n; to = st.to; place = (st.place + n) % 2 ^ 64; used = used; ended = st.ended; verdict = st.verdict }
state_after st (line.Refused status) used =
    record { from = st.from; to = st.to; place = st.place; used = used; ended = st.ended; verdict = Some verdict.Refused }
state_after st line.End used =
    record { from = st.from; to = st.to; place = st.place; used = used; ended = st.ended; verdict = Some verdict.Whole }

-- the bytes s from one place on decide its line: they are as many as it needs, or no more follow
abbrev pub decided : Bool → List ℕ → Bool
decided ended s = cond ended true (nat_le (needed_of s) (length s))

-- the bytes that are read and not listed yet
abbrev pub unlisted : List ℕ → State → List ℕ
unlisted buf st = take (st.to - st.from) (drop st.from buf)

-- from one state to another by lines, each decided, the next at the place after the last; their text
pub data Shown (buf : List ℕ) (st : State) : List ℕ → State → Type 0 where
  none : Shown buf st [] st
  one
      : {text : List ℕ} {mid : State} → Shown buf st text mid → decided mid.ended (unlisted buf mid) ≡ true → (used : ℕ)
      → Shown buf st (text ++ text_of mid.place (line_of (unlisted buf mid))) (state_after mid (line_of (unlisted buf mid)) used)

-- the text of such lines was put after what was there
pub record Lines (buf before : List ℕ) (st r : State) (out : List ℕ) : Type 0 where
  pub text : List ℕ
  pub shown : Shown buf st text r
  pub put : Put before st.used text r.used out

-- all lines are shown for now: where there is no verdict yet and there is room for one more line, the bytes that are not listed yet decide none
abbrev pub AllShown : List ℕ → List ℕ → State → Type 0
AllShown buf out st = is_some st.verdict ≡ false → st.used + 64 ≤ length out → decided st.ended (unlisted buf st) ≡ false
