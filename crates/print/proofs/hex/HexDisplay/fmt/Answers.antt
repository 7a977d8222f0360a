-- The digits so far and those of the next byte are those of one byte more. Assumes nothing.
use Rattle.std.proofs.Common.{◌≡◌, ℕ, ◌+◌, ◌<◌, List, [], ◌++◌, length, get_or, take, rules, arith, sym, ap, ◌∙◌}
use Rattle.std.proofs.Output.{has_written_append, has_written_of_eq}
use Rattle.std.proofs.lemmas.List.{take_more, flat_map_more}
use Rattle.print.specs.Hex.{byte_text, hex_text}
use Rattle.print.proofs.hex.HexDisplay.fmt.Goals as goal

more : (bs : List ℕ) (k : ℕ) → k < length bs → hex_text (take k bs) ++ byte_text (get_or bs k 0) ≡ hex_text (take (k + 1) bs)
more bs k inside = flat_map_more byte_text [] (take k bs) (get_or bs k 0) ∙ ap hex_text (sym (take_more bs k 0 inside))

pub loop-byte-preserved : goal.loop-byte-preserved
loop-byte-preserved g c = λ plain.
    has_written_of_eq _ _ _ _ _
    (more c.args.self.now.0.now c.loop-byte.byte-index (omega arith))
    (has_written_append _ _ _ _ _ _ (c.loop-byte.invariant plain) (search rules))
