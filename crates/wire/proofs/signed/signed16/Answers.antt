-- The machine's two's complement is that of two bytes. Assumes nothing.
use Rattle.std.proofs.Common.{refl, arith, rules, w16}
use Rattle.wire.proofs.Laws.Signed.{signed_to_z}
use Rattle.wire.proofs.signed.signed16.Goals as goal

pub returns : goal.returns
returns c = let same = signed_to_z w16 2 refl refl c.args.x (omega arith) in search (rules, same)
