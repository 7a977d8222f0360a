-- The machine's two's complement is that of two bytes. Assumes nothing.
use Rattle.std.proofs.Common.{refl, ◌∙◌, w16}
use mir.ValLaws.{to_z-of_z}
use Rattle.wire.proofs.Laws.Signed.{unsigned_of_z}
use Rattle.wire.proofs.signed.unsigned16.Goals as goal

pub returns : goal.returns
returns c = let z = c.args.z in
    c.cast_unsigned.ensures ∙ rw (to_z-of_z w16 z c.ranges.z) (unsigned_of_z w16 2 refl z)
