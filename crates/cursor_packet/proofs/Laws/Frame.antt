-- The checks on a packet in their parts: those before its type, and those after its size. Assumes nothing.
use Prim.Native.Nat.{ℕ, ◌+◌}
use mathlib.Core.Path.{◌≡◌, refl}
use mathlib.Core.Bool.{Bool, true, false, not, cond, false≢true}
use mathlib.Core.List.{List, ◌∷◌}
use native.Mathlib.Omega.{arith}
use borrow.Author.Tests.{ltb-false}
use lib.Dec.{ltb}
use lib.ListN.{length}
use Rattle.std.specs.Prelude.{Err}
use Rattle.wire.specs.declared.status.Refusal.TheVariants as refusal
use Rattle.wire.specs.Status.{accept, accepted}
use Rattle.wire.specs.Checks.{refuse, first_of}
use Rattle.wire.proofs.Laws.Checks.{first_append}
use Rattle.cursor_packet.specs.Frame.{kind_checks, whole_checks, size_checks, frame_checks}

pub after_kind
    : (taken fits : Bool) (p : List ℕ)
    → first_of (frame_checks taken fits p)
    ≡ cond (accepted (first_of (kind_checks p))) (first_of (refuse refusal.UnknownKind (not taken) ∷ size_checks fits p)) (first_of (kind_checks p))
unfolding frame_checks
after_kind taken fits p = first_append (kind_checks p) (refuse refusal.UnknownKind (not taken) ∷ size_checks fits p)

both_false
    : (x y : Bool) → accepted (cond x (Err refusal.Truncated) (cond y (Err refusal.WrongSize) accept)) ≡ true → (x ≡ false) × (y ≡ false)
both_false true y h = absurd (false≢true h)
both_false false true h = absurd (false≢true h)
both_false false false h = (refl, refl)

-- a packet that passes the checks after its size ends where it says
pub whole_ends : (size : ℕ) (p : List ℕ) → accepted (first_of (whole_checks size p)) ≡ true → length p ≡ 12 + size
unfolding first_of
whole_ends size p h =
    let r = both_false (ltb (length p) (12 + size)) (ltb (12 + size) (length p)) h in
    omega (arith, ltb-false (length p) (12 + size) r.0, ltb-false (12 + size) (length p) r.1)
