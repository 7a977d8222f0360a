-- Small examples of the completeness question. Each is computed. Assumes nothing.
use Rattle.std.specs.Prelude.{ℕ, ◌≡◌, refl, Bool, true, false, [], ◌∷◌, Ok}
use Rattle.scan.specs.Empty.{first_empty}
use Rattle.cursor_fragment.specs.Start.{no_start}
use Rattle.cursor_picture.specs.declared.Picture.{Picture}
use Rattle.cursor_picture.specs.Picture.{fresh_picture, has_room, held}
use Rattle.cursor_picture.specs.Completeness.{first_empty_of, completeness}
use Rattle.wire.specs.Numbered.{numbered}

-- an opened picture
abbrev pub picture : ℕ → Bool → Picture
picture total seen = record { opened = true; id = 1; total = total; opening = 5; seen = seen; start = no_start }

-- 17 first; no picture open is no; total 0 is complete once a start is seen; marks beyond the total are not looked at
pub answers
    : (numbered (completeness (picture 3 true) 2 (1 ∷ 1 ∷ 1 ∷ [])) ≡ record { number = 17; place = 0 })
    × (completeness fresh_picture 0 [] ≡ Ok false)
    × (completeness (picture 0 true) 0 [] ≡ Ok true)
    × (completeness (picture 2 true) 3 (1 ∷ 7 ∷ 0 ∷ []) ≡ Ok true)
    × (completeness (picture 3 true) 3 (1 ∷ 7 ∷ 0 ∷ []) ≡ Ok false)
unfolding completeness first_empty_of first_empty held has_room fresh_picture
answers = (refl, refl, refl, refl, refl)

-- Without a premise: NumberByHeld.
