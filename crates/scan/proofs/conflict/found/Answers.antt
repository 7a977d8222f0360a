-- Both ways compare all places that the three have. Assumes nothing.
use Rattle.std.proofs.Common.{◌∙◌, rules}
use Rattle.scan.specs.Order.{lesser}
use Rattle.scan.specs.Conflict.{conflict_at, conflict_in}
use Rattle.scan.proofs.Laws.Below.{all_hits}
use Rattle.scan.proofs.conflict.found.Goals as goal

pub returns-then-n-lt1280 : goal.returns-then-n-lt1280
unfolding conflict_in lesser
returns-then-n-lt1280 c =
    let a = c.args in
    all_hits _ (conflict_at a.marks.now a.old.now a.new.now) _ _ (λ k m w. search rules) c.any.ensures ∙ cc

pub returns-else-n-lt1280 : goal.returns-else-n-lt1280
unfolding conflict_in lesser
returns-else-n-lt1280 c = let a = c.args in cc
