-- An order of checks (01, "Refusal numbers": "Each number is given exactly under its condition, first in the order of checks"). Assumes
-- nothing.
use Rattle.std.specs.Prelude.{Bool, cond, List, [], ◌∷◌, Err}
use Rattle.wire.specs.Status.{Status, accept}
use Rattle.wire.specs.declared.status.Refusal.{Refusal}

-- `refuse r b`: refusal r where b holds
pub data Check : Type 0 where
  refuse : Refusal → Bool → Check

-- the first refusal whose condition holds, or accepted
unfoldable pub first_of : List Check → Status
first_of [] = accept
first_of (refuse r b ∷ cs) = cond b (Err r) (first_of cs)
