-- What the parts of the reading of a start or continuation answer. Assumes nothing.
use Rattle.std.specs.Prelude.{ℕ, Bool, List, [], ◌∷◌, ◌++◌, Result}
use Rattle.wire.specs.Status.{passed}
use Rattle.wire.specs.declared.status.Refusal.{Refusal}
use Rattle.wire.specs.declared.status.Refusal.TheVariants as refusal
use Rattle.cursor_fragment.specs.declared.Fragment.{Fragment}
use Rattle.wire.specs.Checks.{Check, refuse}
use Rattle.cursor_packet.specs.Frame.{size_checks}
use Rattle.cursor_fragment.specs.Fragment.{is_outside, size_fits, fragment_of, fragment_status}

-- the checks that follow those of the header and the type: 2, 1, 2, 9
unfoldable pub body_checks : Bool → List ℕ → List Check
body_checks starts p = size_checks (size_fits starts p) p ++ (refuse refusal.OutsideImage (is_outside starts p) ∷ [])

-- the fragment of a packet, or the first refusal
unfoldable pub parsed : List ℕ → Result Fragment Refusal
parsed p = passed (fragment_status p) (fragment_of p)
