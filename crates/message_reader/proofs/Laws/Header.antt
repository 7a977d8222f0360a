-- The rule of Size. Assumes nothing.
use Prim.Native.Nat.{ℕ, ◌+◌, ◌≤◌, ◌<◌}
use mathlib.Core.Path.{◌≡◌, refl, ap, subst}
use mathlib.Core.Bool.{true}
use mathlib.Core.List.{List, ◌++◌}
use native.Mathlib.Omega.{arith}
use native.Mathlib.Decide.{dec_lt}
use borrow.Author.Tests.{ltb-true, ltb-false, lt-ltb, le-ltb}
use lib.ListN.{length, take, length-append, get_or-append}
use lib.Seq.{take_all, length-take-le, get_or-take}
use Rattle.std.specs.Prelude.{Result, Ok, Err}
use Rattle.wire.specs.Checks.{first_of}
use Rattle.wire.specs.Status.{Status, passed, refused_at}
use Rattle.wire.specs.declared.status.Refusal.{Refusal}
use Rattle.wire.specs.declared.status.Refusal.TheVariants as refusal
use Rattle.wire.proofs.Laws.Number.{number_same}
use Rattle.wire.proofs.Laws.Checks.{by_check, by_last_check}
use Rattle.message_reader.specs.Reading.{size_in, size_checks, read_size, header_status, read_message}

-- Size counts the header, and n is Size
pub record Sized (s : List ℕ) (n : ℕ) : Type 0 where
  pub four : 4 ≤ length s
  pub size : n ≡ size_in s
  pub counted : 4 ≤ n

-- what Size is refused with, the header is, and so the message
abbrev Refuses : List ℕ → Refusal → Type 0
Refuses s r = (Err r ≡ header_status s) × (Err (refused_at r 0) ≡ read_message s)

-- what the answer on Size says
abbrev OfSize : List ℕ → Result ℕ Refusal → Type 0
OfSize s (Ok n) = Sized s n
OfSize s (Err r) = Refuses s r

short : (s : List ℕ) → length s < 4 → Refuses s refusal.Truncated
unfolding first_of header_status read_message
short s h = (simp (lt-ltb (length s) 4 h), simp (lt-ltb (length s) 4 h))

below : (s : List ℕ) → 4 ≤ length s → size_in s < 4 → Refuses s refusal.WrongSize
unfolding first_of header_status read_message
below s f h = (simp (le-ltb (length s) 4 f, lt-ltb (size_in s) 4 h), simp (le-ltb (length s) 4 f, lt-ltb (size_in s) 4 h))

-- what the first refusal of its checks says
abbrev AtSize : List ℕ → Status → Type 0
AtSize s st = OfSize s (passed st (size_in s))

at_size : (s : List ℕ) → AtSize s (first_of (size_checks s))
at_size s =
    by_check (AtSize s) refusal.Truncated _ _ (λ e. short s (ltb-true (length s) 4 e))
    (λ a.
    let four = ltb-false (length s) 4 a in
    by_last_check (AtSize s) refusal.WrongSize _ (λ e. below s four (ltb-true (size_in s) 4 e))
    (λ b. record { four = four; size = refl; counted = ltb-false (size_in s) 4 b }))

of_size : (s : List ℕ) → OfSize s (read_size s)
unfolding read_size
of_size s = at_size s

pub size_declared : (s : List ℕ) (n : ℕ) → read_size s ≡ Ok n → Sized s n
size_declared s n e = subst (OfSize s) e (of_size s)

pub size_refused : (s : List ℕ) (r : Refusal) → read_size s ≡ Err r → Refuses s r
size_refused s r e = subst (OfSize s) e (of_size s)

pub size_there : (s : List ℕ) → 4 ≤ length s → 4 ≤ size_in s → read_size s ≡ Ok (size_in s)
unfolding first_of read_size
size_there s h l = simp (le-ltb (length s) 4 h, le-ltb (size_in s) 4 l)

pub size_below : (s : List ℕ) → 4 ≤ length s → size_in s < 4 → read_size s ≡ Err refusal.WrongSize
unfolding first_of read_size
size_below s h l = simp (le-ltb (length s) 4 h, lt-ltb (size_in s) 4 l)

-- the first four bytes decide
size_same : (s t : List ℕ) → 4 ≤ length s → 4 ≤ length t → size_in s ≡ size_in t → read_size s ≡ read_size t
unfolding first_of read_size
size_same s t h l e = simp (le-ltb (length s) 4 h, le-ltb (length t) 4 l, e)

pub size_append : (s rest : List ℕ) → 4 ≤ length s → read_size (s ++ rest) ≡ read_size s
size_append s rest h =
    size_same (s ++ rest) s (simp length-append (omega arith)) h
    (number_same true 2 (s ++ rest) s 0 0 (λ k l. get_or-append s rest 0 (0 + k) (omega arith)))

pub size_take : (s : List ℕ) (n : ℕ) → 4 ≤ n → read_size (take n s) ≡ read_size s
size_take s n h = elim (dec_lt (length s) n) [
  | yes l ↦ ap read_size (take_all n s (omega arith))
  | no l ↦
      let same : length (take n s) ≡ n = length-take-le n s (omega arith) in
      size_same (take n s) s (omega arith) (omega arith) (number_same true 2 (take n s) s 0 0 (λ k b. get_or-take n s (0 + k) 0 (omega arith)))
]
