-- Laws of `copied`: bytes of equal number. Assumes nothing.
use Rattle.std.proofs.Common.{◌≡◌, List, ℕ, length}
use Rattle.scan.specs.Bytes.{copied}
use Rattle.std.proofs.Common.{arith}
use Rattle.std.proofs.lemmas.Grind.{common_steps}

-- as many bytes as there are places take all places
pub copied_all : (from to : List ℕ) → length to ≡ length from → copied from to ≡ from
unfolding copied
copied_all from to e = grind (arith, common_steps)
