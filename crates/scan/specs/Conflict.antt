-- Whether new bytes conflict with those that an image holds (01, refusal 13: "a filled place would get another byte"). Assumes nothing.
use Rattle.std.specs.Prelude.{ℕ, List, Bool, not, ◌&&◌, length, get_or, eqb}
use Rattle.scan.specs.Below.{some_below}
use Rattle.scan.specs.Empty.{filled_at}
use Rattle.scan.specs.Order.{lesser}

-- the place i is filled and would get another byte
abbrev pub conflict_at : List ℕ → List ℕ → List ℕ → ℕ → Bool
conflict_at marks old new i = filled_at marks i && not (eqb (get_or old i 0) (get_or new i 0))

-- some place would, as far as all three lists go
unfoldable pub conflict_in : List ℕ → List ℕ → List ℕ → Bool
conflict_in marks old new = some_below (lesser (length marks) (lesser (length old) (length new))) (conflict_at marks old new)
