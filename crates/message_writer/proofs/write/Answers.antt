-- Each test of the code is one of the definition's; what is accepted is laid, the header first. Assumes nothing.
use Rattle.std.specs.Prelude.{Ok, Err}
use Rattle.std.proofs.lemmas.Result.{IfErr-at_err, err_from_is_err_and}
use Rattle.wire.specs.Status.{refused_at}
use Rattle.wire.specs.declared.status.Refusal.{Refusal}
use Rattle.wire.specs.declared.status.Refusal.TheVariants as refusal
use Prim.Native.Nat.{◌≤◌}
use mathlib.Core.Path.{◌≡◌, refl, sym, ap, ◌∙◌}
use Rattle.std.proofs.lemmas.Option.{cond_some}
use native.Mathlib.Omega.{arith}
use lib.ListN.{length}
use Rattle.message_rules.specs.Record.{size_to}
use Rattle.message_rules.proofs.Laws.Size.{size_least}
use Rattle.message_writer.proofs.Laws.Writing.{all_ok, size_small, no_size, not_writable, no_room, wrote, laid}
use Rattle.message_writer.proofs.write.Goals as goal

pub returns-in_err-size : goal.returns-in_err-size
returns-in_err-size c = let a = c.args in
    let none = c.in_err-size.ensures in
    let reason : c.in_err-size.field-0.0 ≡ refusal.NotWritable = IfErr-at_err (λ (r : Refusal). c.in_err-size.field-0.0 ≡ r) (rw none.ok_part at none.value) refl in
    let e = err_from_is_err_and _ c.from_residual.ensures.1 in
    let r = not_writable a.bytes.now a.message a.out.now (no_size _ _ (sym none.ok_part ∙ c.size_of.ensures)) in
    record { answer = e.1 ∙ ap Err e.2 ∙ ap (λ (r : Refusal). Err (refused_at r 0)) reason ∙ r.0; bytes = r.1 }

pub returns-then-out-size : goal.returns-then-out-size
returns-then-out-size c = let z = cond_some _ _ _ (sym c.size_of.ensures ∙ c.in_ok-size.ensures.ok_part) in
    let a = c.args in
    let r = no_room a.bytes.now a.message a.out.now z.0 (omega (arith, z.1, c.if-out-size.true)) in
    record { answer = ap Err c.into.ensures ∙ r.0; bytes = r.1 }

pub put_head-requires : goal.put_head-requires
put_head-requires c = let z = cond_some _ _ _ (sym c.size_of.ensures ∙ c.in_ok-size.ensures.ok_part) in
    let a = c.args in
    (omega (arith, z.1, size_small a.bytes.now a.message z.0), omega (arith, z.1, size_least a.message 8, c.if-out-size.false))

pub put_tlvs-requires : goal.put_tlvs-requires
put_tlvs-requires c = let z = cond_some _ _ _ (sym c.size_of.ensures ∙ c.in_ok-size.ensures.ok_part) in
    let a = c.args in
    (all_ok a.bytes.now a.message z.0, omega (arith, z.1, c.if-out-size.false))

pub returns : goal.returns
returns c = let z = cond_some _ _ _ (sym c.size_of.ensures ∙ c.in_ok-size.ensures.ok_part) in
    let a = c.args in
    let l : size_to a.message 8 ≤ length a.out.now = omega (arith, z.1, c.if-out-size.false) in
    record {
      answer = ap Ok (sym z.1) ∙ (wrote a.bytes.now a.message a.out.now z.0 l).0;
      bytes = laid a.bytes.now a.message a.out.now z.0 _ _ l (rw (sym z.1) at c.put_head.ensures) c.put_tlvs.ensures;
    }
