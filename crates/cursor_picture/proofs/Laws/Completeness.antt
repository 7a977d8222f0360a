-- The first empty mark is the total exactly if every place is filled; and the question is 17 exactly where the picture is not held. Assumes
-- nothing.
use Prim.Native.Nat.{ℕ, ◌≤◌, ◌<◌}
use mathlib.Core.Path.{◌≡◌, refl, sym, ap, ◌∙◌, subst}
use mathlib.Core.Bool.{Bool, true, false, not, cond, ◌&&◌}
use mathlib.Core.List.{List}
use borrow.Author.Tests.{eq-eqb, eqb-true, not-true}
use lib.Dec.{eqb}
use lib.ListN.{length, take}
use lib.Seq.{length-take-le, get_or-take}
use Rattle.std.specs.Prelude.{Ok, Err}
use Rattle.wire.specs.Status.{refused_at}
use Rattle.wire.specs.Numbered.{numbered, accepted_as, refused_as}
use Rattle.wire.specs.declared.status.Refusal.TheVariants as refusal
use Rattle.scan.specs.Empty.{empty_at, filled_at}
use Rattle.scan.proofs.Laws.Empty.{first_none, first_before}
use Rattle.cursor_picture.specs.Picture.{held}
use Rattle.cursor_picture.specs.Completeness.{first_empty_of, all_filled, completeness, NumberByHeld}

module _ (marks : List ℕ) (total : ℕ) where
  same_mark : (i : ℕ) → i < total → empty_at (take total marks) i ≡ empty_at marks i
  same_mark i l = ap (λ (m : ℕ). eqb m 0) (get_or-take total marks i 0 l)

  pub all_filled_lem : total ≤ length marks → ((i : ℕ) → i < total → filled_at marks i ≡ true) → all_filled marks total ≡ true
  unfolding first_empty_of
  all_filled_lem fits h =
      let long = length-take-le total marks fits in
      eq-eqb _ total
      (first_none (take total marks)
      (λ j l. let k = subst (λ (n : ℕ). j < n) long l in same_mark j k ∙ not-true (empty_at marks j) (h j k)) ∙ long)

  pub filled_all : all_filled marks total ≡ true → (i : ℕ) → i < total → filled_at marks i ≡ true
  unfolding first_empty_of
  filled_all h i l =
      ap not (sym (same_mark i l) ∙ first_before (take total marks) i (subst (λ (n : ℕ). i < n) (sym (eqb-true _ total h)) l))

pub number_by_held : NumberByHeld
unfolding completeness
number_by_held q image marks =
    go (held q image (length marks)) (q.opened && (q.seen && all_filled marks q.total))
  where
    go : (h y : Bool) → numbered (cond h (Ok y) (Err (refused_at refusal.ImageNotHeld 0))) ≡ cond h accepted_as (refused_as (refused_at refusal.ImageNotHeld 0))
    go true y = refl
    go false y = refl
