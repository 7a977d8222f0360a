-- No place that a block skipped is empty. Assumes nothing.
use Rattle.std.proofs.Common.{◌≡◌, ℕ, ◌+◌, Bool, List, [], ◌∷◌, refl, eqb, drop, length, ◌∙◌, arith, rules}
use Rattle.std.proofs.lemmas.Grind.{common_steps}
use Rattle.std.specs.List.{position, position_or_len}
use Rattle.std.specs.Option.{unwrap_or}
use Rattle.std.proofs.lemmas.Iterator.{YieldsList-from_slice}
use Rattle.std.proofs.lemmas.Iterator.Search.{position_from_yields_List}
use borrow.Author.Tests.{tests}
use native.Mathlib.Decide.{dec_lt}
use Rattle.scan.specs.Empty.{empty_at, first_empty}
use Rattle.scan.proofs.Laws.Below.{none_in_block}
use Rattle.scan.proofs.Laws.Empty.{first_from}
use Rattle.scan.proofs.empty.first.Goals as goal

abbrev is_empty : ℕ → Bool
is_empty m = eqb m 0

position_or : (ms : List ℕ) → unwrap_or (position is_empty ms) (length ms) ≡ position_or_len is_empty ms
position_or [] = refl
position_or (m ∷ ms) = grind (arith, common_steps, position_or ms)

pub returns : goal.returns
unfolding first_empty
returns c =
    let m = c.args.marks.now in
    let from = c.skip_until-narrow.result in
    let after : first_empty m ≡ from + first_empty (drop from m)
    = first_from m from (omega arith) (λ j l. elim (dec_lt j c.skip_until-wide.result) [
      | yes h ↦
          let p = c.skip_until-wide.ensures.passed j (omega arith) h in
          let s = p.5 in
          none_in_block (empty_at m) p.0 256 j p.2 p.3 (search rules)
      | no h ↦
          let p = c.skip_until-narrow.ensures.passed j (omega arith) l in
          let s = p.5 in
          none_in_block (empty_at m) p.0 16 j p.2 p.3 (search rules)
    ]) in
    let found
    = position_from_yields_List is_empty _ _ c.position-place.result c.position-place.ensures.ran (YieldsList-from_slice (drop from m) (grind (arith, common_steps))) (λ x b q k. search (rules, tests)) in
    let rest : c.unwrap_or.result ≡ unwrap_or c.position-place.result (length (drop from m)) = c.unwrap_or.ensures ∙ grind (arith, common_steps) in
    rw (after, rest, found, position_or (drop from m))
