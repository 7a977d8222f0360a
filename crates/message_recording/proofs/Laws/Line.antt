-- The tests on a line's bytes look at its front alone. Assumes nothing.
use Prim.Native.Nat.{ℕ, zero, suc, ◌≤◌, ◌<◌}
use mathlib.Core.Path.{◌≡◌, refl, sym, ap, ◌∙◌, subst}
use mathlib.Core.Bool.{true}
use mathlib.Core.List.{List, [], ◌∷◌, ◌++◌}
use native.Mathlib.Omega.{arith}
use native.Mathlib.Decide.{dec_lt}
use borrow.Author.Tests.{eqb-true, eqb-false, ne_eqb}
use lib.ListN.{length, take, drop, length-append, take-append-drop}
use lib.Seq.{take-append-le, take_all, length-take-le}
use lib.Dec.{eqb}
use Rattle.wire.specs.Number.{Bytes}
use Rattle.std.specs.Prelude.{Result, Ok, Err}
use Rattle.wire.specs.declared.status.Refusal.{Refusal as Reason}
use Rattle.wire.specs.declared.status.Refusal.TheVariants as refusal
use Rattle.wire.proofs.Laws.Bool.{impossible, by_test}
use Rattle.wire.proofs.Laws.Number.{number_small}
use Rattle.message_rules.specs.declared.record.Message.{Message}
use Rattle.message_reader.specs.Reading.{Answer, size_in, read_size, read_message}
use Rattle.message_reader.specs.Theorems.{Refusal, AcceptedExactly}
use Rattle.message_reader.specs.Theorems as given
use Rattle.message_reader.proofs.Laws.Header.{size_declared, size_refused, size_there, size_below, size_append, size_take}
use Rattle.message_reader.proofs.Laws.Reading.{refused, accepted_exactly}
use Rattle.message_recording.specs.declared.line.Line.{Line}
use Rattle.message_recording.specs.declared.line.Line.TheVariants as line
use Rattle.message_recording.specs.Cut.{bytes_for, needed_of}
use Rattle.message_recording.specs.Line.{shown, line_of}
use Rattle.message_recording.specs.Theorems.{ReadSoFarDecides, FrontDecides, BoundedNeed, Whole, MessageExactly, EndExactly, CutBySize}

-- ---- which bytes decide

-- a Size that is not refused is needed whole
pub needed_size : (s : List ℕ) → 4 ≤ length s → 4 ≤ size_in s → needed_of s ≡ size_in s
unfolding needed_of
needed_size s h l = ap bytes_for (size_there s h l)

need : (s : List ℕ) (x : Result ℕ Reason) → read_size s ≡ x → (4 ≤ bytes_for x) × (Bytes s → bytes_for x ≤ 65535)
need s (Ok n) e = let d = size_declared s n e in (d.counted, λ b. let l = d.size in omega (arith, number_small true 2 0 s b))
need s (Err r) e = (omega arith, λ b. omega arith)

pub needed_four : (s : List ℕ) → 4 ≤ needed_of s
unfolding needed_of
needed_four s = (need s (read_size s) refl).0

pub bounded_need : BoundedNeed
unfolding BoundedNeed needed_of
bounded_need s b = (need s (read_size s) refl).1 b

pub line_of_lem : (s : List ℕ) → 0 < length s → line_of s ≡ shown (needed_of s) (read_message (take (needed_of s) s))
unfolding line_of
line_of_lem s h = simp (ne_eqb (length s) 0 (λ e. omega arith))

pub read_so_far_decides : ReadSoFarDecides
unfolding ReadSoFarDecides needed_of
read_so_far_decides s rest h =
    let four : 4 ≤ length s = omega (arith, needed_four s) in
    line_of_lem (s ++ rest) (simp length-append (omega arith))
    ∙ rw (size_append s rest four, take-append-le (needed_of s) s rest h) (sym (line_of_lem s (omega arith)))

pub front_decides : FrontDecides
unfolding FrontDecides ReadSoFarDecides needed_of
front_decides s n h = elim (dec_lt n (length s)) [
  | yes l ↦
      let four = needed_four s in
      let same : length (take n s) ≡ n = length-take-le n s (omega arith) in
      let all : needed_of (take n s) ≤ length (take n s) = rw (size_take s n (omega arith), same) h in
      sym (read_so_far_decides (take n s) (drop n s) all) ∙ ap line_of (take-append-drop n s)
  | no l ↦ ap line_of (take_all n s (omega arith))
]

-- ---- what a line shows

-- what a line says
abbrev OfLine : List ℕ → Line → Type 0
OfLine s (line.Message c n) = (m : Message) × Whole s c n m
OfLine s (line.Refused r) = 0 < length s
OfLine s line.End = s ≡ []

there : (s : List ℕ) (n : ℕ) → n ≡ length (take n s) → n ≤ length s
there s n e = elim (dec_lt (length s) n) [
  | yes l ↦ let all = ap length (take_all n s (omega arith)) in absurd (let no : ⊥ = omega arith in no)
  | no l ↦ omega arith
]

-- an accepted message stands there whole
whole : (s : List ℕ) (m : Message) (x : Result ℕ Reason) → read_size s ≡ x → read_message (take (bytes_for x) s) ≡ Ok m → Whole s m.command (bytes_for x) m
unfolding AcceptedExactly
whole s m (Ok n) e f =
    let d = size_declared s n e in
    let t = size_declared (take n s) n (size_take s n d.counted ∙ e) in
    let h = ((accepted_exactly (take n s) m).0 f).headed in
    record { size = sym d.size; four = d.counted; there = there s n (t.size ∙ h.size); accepted = f; command = refl }
whole s m (Err r) e f =
    let no = (size_refused (take 4 s) r (size_take s 4 (omega arith) ∙ e)).1 ∙ f in
    impossible (cc)

of_shown : (s : List ℕ) → 0 < length s → (a : Answer) → read_message (take (needed_of s) s) ≡ a → OfLine s (shown (needed_of s) a)
unfolding needed_of
of_shown s h (Ok m) e = (m, whole s m (read_size s) refl e)
of_shown s h (Err r) e = h

pub positive : (n : ℕ) → (n ≡ 0 → ⊥) → 0 < n
positive zero h = absurd (h refl)
positive (suc n) h = omega arith

pub nothing : (s : List ℕ) → length s ≡ 0 → s ≡ []
nothing [] e = refl
nothing (x ∷ s) e = absurd (let no : ⊥ = omega arith in no)

pub of_line : (s : List ℕ) → OfLine s (line_of s)
unfolding line_of
of_line s =
    by_test (OfLine s) (eqb (length s) 0) _ _ (λ e. nothing s (eqb-true (length s) 0 e))
    (λ z. let some = eqb-false (length s) 0 z in of_shown s (positive (length s) some) _ refl)

pub message_exactly : MessageExactly
unfolding MessageExactly
message_exactly s c n = (λ e. subst (OfLine s) e (of_line s), λ m w. shows m w)
  where
    shows : (m : Message) → Whole s c n m → line_of s ≡ line.Message c n
    shows m w =
        let z = w.size in
        let f = w.four in
        let t = w.there in
        let e = needed_size s (omega arith) (omega arith) ∙ z in
        line_of_lem s (omega arith) ∙ rw (e, w.accepted, w.command)

pub end_exactly : EndExactly
unfolding EndExactly line_of
end_exactly s = (λ e. subst (OfLine s) e (of_line s), λ e. rw e)

-- ---- cut by Size

-- fewer bytes than are needed are refused
pub line_short : (s : List ℕ) → 0 < length s → length s < needed_of s → line_of s ≡ line.Refused refusal.Truncated
unfolding needed_of
line_short s h l =
    line_of_lem s h ∙ rw (take_all (needed_of s) s (omega arith), refused s refusal.Truncated 0 (fewer (read_size s) refl l))
  where
    fewer : (x : Result ℕ Reason) → read_size s ≡ x → length s < bytes_for x → Refusal s refusal.Truncated 0
    fewer (Ok n) e f = let d = size_declared s n e in given.before_size d.four (let a = d.size in let b = d.counted in omega arith) (let a = d.size in omega arith)
    fewer (Err r) e f = given.before_header f

-- a Size that is refused
line_refused : (s : List ℕ) → 0 < length s → (r : Reason) → read_size s ≡ Err r → line_of s ≡ line.Refused r
unfolding needed_of
line_refused s h r e =
    line_of_lem s h ∙ rw (e, sym (size_refused (take 4 s) r (size_take s 4 (omega arith) ∙ e)).1)

pub cut_by_size : CutBySize
unfolding CutBySize
cut_by_size s h = (
  λ f. line_short s h (let n = needed_four s in omega arith),
  λ f b. line_refused s h refusal.WrongSize (size_below s f b),
  λ f b. line_short s h (let e = needed_size s f (omega arith) in omega arith),
  λ f a. line_of_lem s h ∙ rw (needed_size s (omega arith) f),
)
