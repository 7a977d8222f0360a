-- Where there are no lines and it goes on, the bytes that are not listed yet decide none, and the buffer has room for more. Assumes nothing.
use Rattle.std.proofs.Common.{rules, not, ap, ◌∙◌, arith}
use Rattle.listing.proofs.Laws.Lines.{undecided_room}
use Rattle.listing.proofs.Listing.step.Goals as goal

pub read_more-requires : goal.read_more-requires
read_more-requires g c =
    let w = c.show_lines-self.ensures.within in
    let e = c.show_lines-self.ensures.all (c.is_none.ensures ∙ ap not c.if-is_none.true) (omega (arith, w.room)) in
    record { room = undecided_room _ _ c.show_lines-self.result w (λ i. search rules) e; written = omega arith }
