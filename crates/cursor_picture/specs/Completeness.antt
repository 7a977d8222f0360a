-- The completeness question (01, "Cursor packets": "The completeness question is 17 first; with no picture open its answer is no"; "Total
-- 0 is allowed, and is complete once a start is seen"). Assumes nothing.
use Rattle.std.specs.Prelude.{ℕ, ◌≡◌, Bool, cond, ◌&&◌, List, eqb, length, take, Result, Ok, Err}
use Rattle.wire.specs.declared.status.Refusal.TheVariants as refusal
use Rattle.wire.specs.declared.status.Refused.{Refused}
use Rattle.wire.specs.Status.{refused_at}
use Rattle.wire.specs.Numbered.{numbered, accepted_as, refused_as}
use Rattle.scan.specs.Empty.{first_empty}
use Rattle.cursor_picture.specs.declared.Picture.{Picture}
use Rattle.cursor_picture.specs.Picture.{held}

-- the place of the first empty mark of the places 0 to total − 1, or the total where each is filled
unfoldable pub first_empty_of : List ℕ → ℕ → ℕ
first_empty_of marks total = first_empty (take total marks)

-- every place is filled
abbrev pub all_filled : List ℕ → ℕ → Bool
all_filled marks total = eqb (first_empty_of marks total) total

-- `image` is the lent picture's length
unfoldable pub completeness : Picture → ℕ → List ℕ → Result Bool Refused
completeness q image marks =
    cond (held q image (length marks)) (Ok (q.opened && (q.seen && all_filled marks q.total))) (Err (refused_at refusal.ImageNotHeld 0))

-- The question is 17 exactly where the opened picture is not held, and else answered. The proof stands in proofs/Laws/Completeness.antt.
abbrev pub NumberByHeld : Type 0
NumberByHeld =
    (q : Picture) (image : ℕ) (marks : List ℕ)
    → numbered (completeness q image marks) ≡ cond (held q image (length marks)) accepted_as (refused_as (refused_at refusal.ImageNotHeld 0))
