-- Each line is put after the others, and leaves less to do. Assumes nothing.
use Rattle.std.proofs.Common.{◌≡◌, length}
use Rattle.listing.specs.State.{Within, Lines}
use Rattle.listing.proofs.Laws.Lines.{left}
use Rattle.listing.proofs.show_lines.Given as goal

abbrev pub invariant-loop-state : goal.invariant-loop-state
invariant-loop-state l = Within l.buf l.out l.state × (length l.out ≡ length l.initial.out) × Lines l.buf l.initial.out l.initial.state l.state l.out

abbrev pub decreases-loop-state : goal.decreases-loop-state
decreases-loop-state l = left l.state
