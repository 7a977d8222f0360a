-- No place below k conflicts: what is skipped can't, and the block after it was compared. Assumes nothing.
use Rattle.std.proofs.Common.{rules, sym, arith}
use native.Mathlib.Decide.{dec_lt}
use Rattle.scan.specs.Conflict.{conflict_at}
use Rattle.scan.proofs.Laws.Below.{below_none, some_hit}
use Rattle.scan.proofs.Laws.Conflict.{empty_no_conflict, equal_no_conflict}
use Rattle.scan.proofs.conflict.any_by_blocks.Goals as goal

pub returns-then-any : goal.returns-then-any
returns-then-any c =
    let a = c.args in
    sym (some_hit a.n (conflict_at a.marks.now a.old.now a.new.now) _ _ _ (omega arith) (λ k m w. search rules) c.if-any.ensures)

pub loop-k-preserved : goal.loop-k-preserved
loop-k-preserved c =
    let a = c.args in
    record {
      within = omega arith;
      none = λ j l. elim (dec_lt j c.skip-at.result) [
        | yes h ↦ elim (dec_lt j c.skip-other.result) [
          | yes i ↦ elim (dec_lt j c.loop-k.k) [
            | yes f ↦ c.loop-k.invariant.none j f
            | no f ↦ let w = c.skip-other.ensures.skipped j (omega arith) i in search (rules, equal_no_conflict)
          ]
          | no i ↦ let w = c.skip-at.ensures.skipped j (omega arith) h in search (rules, empty_no_conflict)
        ]
        | no h ↦ let w = c.if-any.ensures j (omega arith) l in search rules
      ];
    }

pub returns : goal.returns
returns c = let a = c.args in sym (below_none a.n (conflict_at a.marks.now a.old.now a.new.now) (λ j u. c.loop-k.invariant.none j (omega arith)))
