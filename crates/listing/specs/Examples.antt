-- Lines as 01 prints them, computed. Assumes nothing.
use Rattle.std.specs.Prelude.{◌≡◌, [], ◌∷◌, refl}
use Rattle.wire.specs.declared.status.Refusal.TheVariants as refusal
use Rattle.message_recording.specs.declared.line.Line.TheVariants as line
use Rattle.listing.specs.Text.{decimal_to, decimal, text_of}

-- `33 2 28`
pub message : text_of 33 (line.Message 2 28) ≡ 51 ∷ 51 ∷ 32 ∷ 50 ∷ 32 ∷ 50 ∷ 56 ∷ 10 ∷ []
unfolding decimal decimal_to
message = refl

-- `61 refused 1`
pub refused : text_of 61 (line.Refused refusal.Truncated) ≡ 54 ∷ 49 ∷ 32 ∷ 114 ∷ 101 ∷ 102 ∷ 117 ∷ 115 ∷ 101 ∷ 100 ∷ 32 ∷ 49 ∷ 10 ∷ []
unfolding decimal decimal_to
refused = refl

-- `end 61` and `end 0`
pub end_61 : text_of 61 line.End ≡ 101 ∷ 110 ∷ 100 ∷ 32 ∷ 54 ∷ 49 ∷ 10 ∷ []
unfolding decimal decimal_to
end_61 = refl

pub end_0 : text_of 0 line.End ≡ 101 ∷ 110 ∷ 100 ∷ 32 ∷ 48 ∷ 10 ∷ []
unfolding decimal decimal_to
end_0 = refl
