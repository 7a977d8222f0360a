-- Type, Length and the value are laid one after the other. Assumes nothing.
use Prim.Native.Nat.{ℕ, ◌+◌, ◌-◌, ◌≤◌, ◌<◌}
use mathlib.Core.Path.{◌≡◌, refl, ap, ◌∙◌}
use mathlib.Core.Bool.{true}
use mathlib.Core.List.{List}
use native.Mathlib.Omega.{arith}
use borrow.Rule.Slice.PartMut.{put_mid}
use lib.ListN.{length, take, drop, length-drop}
use lib.Seq.{length-take-le}
use Rattle.wire.specs.Number.{written}
use Rattle.wire.specs.Splice.{splice}
use Rattle.wire.proofs.Laws.Splice.{part_back}
use Rattle.message_rules.specs.declared.record.Field.{Field}
use Rattle.message_writer.specs.Writing.{tlv_bytes}
use Rattle.wire.proofs.Laws.Written.{none, next, next_part}
use Rattle.message_writer.proofs.Laws.Writing.{one_byte}
use Rattle.scan.proofs.Laws.Bytes.{copied_all}
use Rattle.std.proofs.Common.{rules}
use Rattle.message_writer.proofs.put_tlv.Goals as goal

laid
    : (s : List ℕ) (kind : ℕ) (f : Field) (at n : ℕ) (xs ys zs vs : List ℕ) → kind < 256 → f.at + f.len ≤ length s → at + 3 + f.len ≤ length xs
    → ys ≡ written 1 kind at xs → zs ≡ written 2 f.len (at + 1) ys → vs ≡ take f.len (drop f.at s) → n ≡ f.len
    → put_mid (at + 3) n zs vs ≡ splice at (tlv_bytes s kind f) xs
laid s kind f at n xs ys zs vs small inside h p q v e =
    let room : f.len ≤ length (drop f.at s) = simp length-drop (omega arith) in
    let long : length vs ≡ f.len = ap length v ∙ length-take-le f.len (drop f.at s) room in
    let i : at + 3 ≡ at + 1 + 2 = omega arith in
    let typed = next (none true at xs) 1 kind p (omega arith) in
    let sized = next typed 2 f.len q (omega arith) in
    part_back (at + 3) n zs vs (omega arith)
    ∙ (next_part sized vs f.len long (ap (λ (to : ℕ). splice to vs zs) i) (omega arith)).all
    ∙ rw (v, one_byte kind small)

pub returns : goal.returns
returns c = let a = c.args in
    let f = a.value in
    let e : f.at + f.len - f.at ≡ f.len = omega arith in
    let d = take (f.at + f.len - f.at) (drop f.at a.bytes.now) in
    let p = take (a.at + 3 + f.len - (a.at + 3)) (drop (a.at + 3) c.write-2.new.out) in
    let l : length p ≡ length d = search rules in (
      refl,
      laid a.bytes.now a.kind f a.at (a.at + 3 + f.len - (a.at + 3)) a.out.now _ _ _ (omega arith) (omega arith)
          (omega arith) c.write.ensures.bytes c.write-2.ensures.bytes (rw e at (c.copy.ensures ∙ copied_all d p l)) (omega arith),
    )
