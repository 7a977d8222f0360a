-- The greatest answer passed is not 0 where one of all places is hit, and 0 where none passed is. Assumes nothing.
use Rattle.std.proofs.Common.{◌≡◌, ◌<◌}
use Rattle.scan.specs.Blocks.{SomeHit, NoneHit}
use Rattle.scan.proofs.blocks.any.Given as goal

abbrev pub invariant-loop-k : goal.invariant-loop-k
invariant-loop-k g l = record {
  some : 0 < l.high → SomeHit (goal.F-post g l.hit) l.from l.to;
  none : l.high ≡ 0 → NoneHit (goal.F-post g l.hit) l.from l.k;
}
