-- The three numbers are laid one after the other. Assumes nothing.
use Prim.Native.Nat.{ℕ, ◌≤◌, ◌<◌}
use mathlib.Core.Path.{◌≡◌, ap, ◌∙◌}
use mathlib.Core.Bool.{true}
use mathlib.Core.List.{List, append_assoc}
use native.Mathlib.Omega.{arith}
use lib.ListN.{length}
use Rattle.wire.specs.Number.{written}
use Rattle.wire.specs.Splice.{splice}
use Rattle.message_writer.specs.Writing.{head_bytes}
use Rattle.wire.proofs.Laws.Written.{none, next}
use Rattle.message_writer.proofs.Laws.Writing.{one_byte}
use Rattle.message_writer.proofs.put_head.Goals as goal

laid
    : (size c : ℕ) (xs ys zs ds : List ℕ) → c < 256 → 4 ≤ length xs → ys ≡ written 2 size 0 xs → zs ≡ written 1 1 2 ys → ds ≡ written 1 c 3 zs
    → ds ≡ splice 0 (head_bytes size c) xs
laid size c xs ys zs ds small h p q r =
    let sized = next (none true 0 xs) 2 size p (omega arith) in
    let versioned = next sized 1 1 q (omega arith) in
    (next versioned 1 c r (omega arith)).all
    ∙ ap (λ (l : List ℕ). splice 0 l xs) (rw (append_assoc, one_byte 1 (omega arith), one_byte c small))

pub returns : goal.returns
returns c = let a = c.args in
    laid a.size a.command a.out.now _ _ _ (omega arith) (omega arith) c.write.ensures.bytes c.write-2.ensures.bytes c.write-3.ensures.bytes
