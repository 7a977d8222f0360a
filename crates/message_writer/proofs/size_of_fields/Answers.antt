-- The fields below `kind` can be written, and `size` is the size of the header and their TLVs, each of which two bytes of Length describe, so
-- that the sum fits. Assumes nothing.
use Prim.Native.Nat.{ℕ, ◌≤◌}
use mathlib.Core.Path.{◌≡◌, refl, sym, ap, ◌∙◌}
use mathlib.Core.Bool.{true}
use native.Mathlib.Omega.{arith}
use Rattle.message_rules.specs.declared.record.Field.{Field}
use Rattle.message_rules.specs.declared.record.Message.{Message}
use Rattle.message_rules.specs.Record.{field_of, size_to}
use Rattle.message_writer.specs.Writing.{field_ok}
use Rattle.wire.proofs.Laws.Below.{below_none, below_next, one_below}
use Rattle.message_rules.proofs.Laws.Size.{size_there, size_none}
use Rattle.message_writer.proofs.Laws.Writing.{ok_small}
use Rattle.message_writer.proofs.size_of_fields.Goals.{then-value, else-value}
use Rattle.message_writer.proofs.size_of_fields.Goals as goal

small : (n : ℕ) (m : Message) (t : ℕ) (f : Field) → f ≡ field_of m t → field_ok n m t ≡ true → f.present ≡ true → f.len ≤ 65535
small n m t f q ok p = rw q (ok_small n m t ok (rw q at p))

pub loop-kind-init : goal.loop-kind-init
unfolding size_to
loop-kind-init c = (below_none _, refl, omega arith)

pub returns-then-not-field_ok : goal.returns-then-not-field_ok
returns-then-not-field_ok c = let a = c.args in
    rw (one_below (field_ok a.n a.message) 8 c.loop-kind.kind c.loop-kind-test.true (sym c.field_ok.ensures ∙ c.if-not-field_ok.true))

pub loop-kind-preserved : goal.loop-kind-preserved
loop-kind-preserved c = let f = c.field_of-value in
    let l = c.loop-kind in
    let a = c.args in
    let ok = sym c.field_ok.ensures ∙ c.if-not-field_ok.false in
    let all = below_next _ l.kind l.invariant.0 ok in
    elim c.if-value.branch [
      | then-value w ↦
          let h = small a.n a.message l.kind f.result f.ensures ok w.if-value.true in
          let e = size_there a.message l.kind (rw f.ensures at w.if-value.true) in
          let q = ap (λ (x : Field). x.len) f.ensures in
          (all, omega (arith, w.size-is, e, q, l.invariant), omega (arith, w.size-is, h, l.invariant))
      | else-value w ↦
          let e = size_none a.message l.kind (rw f.ensures at w.if-value.false) in
          (all, omega (arith, w.size-is, e, l.invariant), omega (arith, w.size-is, l.invariant))
    ]
