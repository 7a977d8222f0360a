-- Small examples of this crate's definitions. Each is computed.
use Rattle.std.specs.Prelude.{◌≡◌, refl, true, false, [], ◌∷◌}
use Rattle.scan.specs.Below.{some_below}
use Rattle.scan.specs.Bytes.{copied}
use Rattle.scan.specs.Conflict.{conflict_in}
use Rattle.scan.specs.Empty.{first_empty}
use Rattle.scan.specs.Order.{lesser}

-- an empty place takes another byte, a filled one the byte that it holds; a mark other than 1 is one too
pub no_conflict : conflict_in (0 ∷ 1 ∷ 7 ∷ []) (5 ∷ 6 ∷ 8 ∷ []) (9 ∷ 6 ∷ 8 ∷ []) ≡ false
unfolding conflict_in some_below lesser
no_conflict = refl

pub conflict : conflict_in (0 ∷ 1 ∷ 7 ∷ []) (5 ∷ 6 ∷ 8 ∷ []) (9 ∷ 6 ∷ 0 ∷ []) ≡ true
unfolding conflict_in some_below lesser
conflict = refl

-- only places that all three have are compared
pub short : conflict_in (1 ∷ 1 ∷ []) (5 ∷ 6 ∷ 8 ∷ []) (5 ∷ []) ≡ false
unfolding conflict_in some_below lesser
short = refl

pub copied_over : copied (1 ∷ 2 ∷ []) (5 ∷ 6 ∷ 8 ∷ []) ≡ 1 ∷ 2 ∷ 8 ∷ []
unfolding copied
copied_over = refl

pub first_of_three : first_empty (1 ∷ 255 ∷ 0 ∷ 0 ∷ []) ≡ 2
unfolding first_empty
first_of_three = refl

pub none_empty : first_empty (1 ∷ 2 ∷ []) ≡ 2
unfolding first_empty
none_empty = refl
