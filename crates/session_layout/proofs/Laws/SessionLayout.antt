-- What is written of a session reads back; sessions that are the same are equal. Assumes nothing.
use Prim.Native.Nat.{ℕ, ◌+◌, ◌≤◌, ◌<◌}
use mathlib.Core.Path.{◌≡◌, refl, sym, ap, ◌∙◌}
use mathlib.Core.Bool.{beq}
use mathlib.Core.List.{List, [], ◌++◌, append-nil}
use native.Mathlib.Omega.{arith}
use borrow.Author.Rules.{rules}
use borrow.Author.Tests.{eqb-true, eq-eqb}
use lib.Dec.{eqb}
use lib.ListN.{length, drop, replicate, length-append, drop_of_length-le}
use lib.Seq.{take_at}
use Rattle.std.specs.Cmp.{booleans_Decides, bool_eq_equiv}
use Rattle.wire.specs.Splice.{splice}
use Rattle.scan.specs.Bytes.{copied}
use Rattle.session_table.specs.declared.record.State.{State}
use Rattle.session_table.specs.declared.record.State.TheVariants as state
use Rattle.session_table.specs.declared.record.Session.{Session}
use Rattle.wire.specs.Laid.{laid}
use Rattle.wire.specs.Layout.{flag}
use Rattle.wire.specs.LittleEndian.{bytes}
use Rattle.wire.specs.Number.{bytes_in}
use Rattle.session_layout.specs.SessionLayout.{id_at, session_bytes, session_of, same_session, SessionReadsBack, SameIsEqual, SameAsItself}
use Rattle.session_table.specs.Record.{state_of, state_number}
use Rattle.session_table.proofs.Laws.Source.{same_itself, same_decides}
use Rattle.wire.proofs.Laws.Bool.{both}
use Rattle.wire.proofs.Laws.Laid.{laid_fits}
use Rattle.wire.proofs.Laws.Layout.{Begins, laid_begins, before_part, before, number_in, flag_in}

pub session_length : (s : Session) → length s.source.bytes ≡ 16 → length (session_bytes s) ≡ 19
unfolding session_bytes bytes_in
session_length s e = omega (arith, e)

state_small : (s : State) → state_number s < 256
state_small state.Waiting = omega arith
state_small state.Handshake = omega arith
state_small state.PinWait = omega arith
state_small state.ReadyWait = omega arith
state_small state.Projecting = omega arith
state_small state.Closed = omega arith

state_back : (s : State) → state_of (state_number s) ≡ s
unfolding state_of
state_back state.Waiting = refl
state_back state.Handshake = refl
state_back state.PinWait = refl
state_back state.ReadyWait = refl
state_back state.Projecting = refl
state_back state.Closed = refl

id_back : (s : Session) (xs : List ℕ) → length s.source.bytes ≡ 16 → 19 ≤ length xs → id_at 3 (laid (session_bytes s) xs) ≡ s.source.bytes
unfolding id_at session_bytes bytes_in copied splice
id_back s xs e h =
    let bs = s.source.bytes in
    let rest = drop (0 + length (session_bytes s)) xs in
    let l : length (bs ++ rest) ≡ length bs + length rest = length-append bs rest in
    let n : length (session_bytes s) ≡ 19 = session_length s e in
    rw (laid_fits (session_bytes s) xs (omega arith), take_at bs rest 16 e, drop_of_length-le {A = ℕ} (replicate 16 0) {i = length (bs ++ rest)} (omega arith)) (append-nil bs)

pub session_reads_back : SessionReadsBack
unfolding SessionReadsBack session_of session_bytes
session_reads_back s xs o i h =
    let d1 = bytes 1 (state_number s.state) in
    let d2 = d1 ++ bytes 1 s.options in
    let d3 = d2 ++ bytes 1 (flag s.source.present) in
    let b19 : Begins 19 (d3 ++ s.source.bytes) (laid (session_bytes s) xs) = laid_begins 19 (session_bytes s) xs (session_length s i) h in
    let b3 = before_part 3 d3 16 s.source.bytes i b19 in
    let b2 = before 2 d2 1 (flag s.source.present) b3 in
    let b1 = before 1 d1 1 s.options b2 in
    rw (
      number_in 0 [] 1 (state_number s.state) (state_small s.state) b1,
      number_in 1 d1 1 s.options o b2,
      flag_in 2 d2 s.source.present b3,
      id_back s xs i h,
      state_back s.state,
    )

-- ---- the same session

pub same_is_equal : SameIsEqual
unfolding SameIsEqual same_session
same_is_equal a b l m e =
    let h = both (eqb (state_number a.state) (state_number b.state)) _ e in
    let i = both (eqb a.options b.options) _ h.1 in
    let j = both (beq a.source.present b.source.present) _ i.1 in
    let state : a.state ≡ b.state
    = sym (state_back a.state) ∙ ap state_of (eqb-true (state_number a.state) (state_number b.state) h.0) ∙ state_back b.state in
    let options : a.options ≡ b.options = eqb-true a.options b.options i.0 in
    let present : a.source.present ≡ b.source.present = (booleans_Decides a.source.present b.source.present).0 j.0 in
    let id : a.source.bytes ≡ b.source.bytes = (same_decides a.source.bytes b.source.bytes l m).0 j.1 in
    search rules

pub same_as_itself : SameAsItself
unfolding SameAsItself same_session
same_as_itself s =
    simp (
      eq-eqb (state_number s.state) (state_number s.state) refl,
      eq-eqb s.options s.options refl,
      bool_eq_equiv.refl s.source.present,
      same_itself s.source.bytes,
    )
