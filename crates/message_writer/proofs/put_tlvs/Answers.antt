-- The TLVs of the types below `kind` are laid after the header, and `at` is the place after them. Assumes nothing.
use Prim.Native.Nat.{ℕ, ◌+◌}
use mathlib.Core.Path.{◌≡◌, refl, sym, ap, ◌∙◌}
use mathlib.Core.List.{List}
use native.Mathlib.Omega.{arith}
use lib.ListN.{length}
use Rattle.wire.specs.Splice.{splice}
use Rattle.wire.proofs.Laws.Splice.{splice_none}
use Rattle.message_rules.specs.declared.record.Field.{Field}
use Rattle.message_rules.specs.Record.{size_to}
use Rattle.message_writer.specs.Writing.{body_to}
use Rattle.message_rules.proofs.Laws.Size.{size_there, size_none}
use Rattle.message_writer.proofs.Laws.Writing.{body_none, laid_length, laid_next, tlv_within, tlv_small, tlv_room}
use Rattle.message_writer.proofs.put_tlvs.Goals.{then-value, else-value}
use Rattle.message_writer.proofs.put_tlvs.Goals as goal

pub loop-kind-init : goal.loop-kind-init
unfolding size_to body_to
loop-kind-init c = (refl, sym (splice_none 4 _))

pub put_tlv-at-requires : goal.put_tlv-at-requires
put_tlv-at-requires c = let pre = c.requires in
    let f = c.field_of-value in
    let a = c.args in
    let l = c.loop-kind in
    let s = a.bytes.now in
    let xs = a.out.now in
    let t = c.loop-kind-test.true in
    let p = rw f.ensures at c.if-value.true in
    let e = ap length l.invariant.1 ∙ laid_length s a.message xs pre.0 pre.1 l.kind (omega arith) in
    rw f.ensures (
      tlv_within s a.message xs pre.0 pre.1 l.kind t p,
      tlv_small s a.message xs pre.0 pre.1 l.kind t p,
      omega (arith, tlv_room s a.message xs pre.0 pre.1 l.kind t p, e, l.invariant.0),
    )

pub loop-kind-preserved : goal.loop-kind-preserved
loop-kind-preserved c = let pre = c.requires in
    let a = c.args in
    let l = c.loop-kind in
    let s = a.bytes.now in
    let xs = a.out.now in
    let f = c.field_of-value in
    elim c.if-value.branch [
      | then-value w ↦
          let p = rw f.ensures at w.if-value.true in
          let q = ap (λ (x : Field). x.len) f.ensures in
          let r = w.put_tlv-at in
          let e : l.at + 3 + f.result.len ≡ size_to a.message (l.kind + 1) = omega (arith, size_there a.message l.kind p, q, l.invariant.0) in (
            w.at-is ∙ r.ensures.0 ∙ e,
            laid_next s a.message xs pre.0 pre.1 l.kind c.loop-kind-test.true p l.out _ l.invariant.1
                (w.out-is ∙ rw (l.invariant.0, f.ensures) at r.ensures.1),
          )
      | else-value w ↦
          let p = rw f.ensures at w.if-value.false in (
            w.at-is ∙ l.invariant.0 ∙ sym (size_none a.message l.kind p),
            w.out-is ∙ l.invariant.1 ∙ ap (λ (b : List ℕ). splice 4 b xs) (sym (body_none a.message s l.kind p)),
          )
    ]
