-- What is still to be written on the present bytes gives what was to be written on the first ones. Assumes nothing.
use Prim.Native.Nat.{◌+◌, ◌*◌, ◌≤◌}
use mathlib.Core.Path.{◌≡◌}
use lib.ListN.{length, drop}
use Rattle.wire.specs.Splice.{splice}
use Rattle.cursor_limits.proofs.Laws.Writing.{spell_fields}
use Rattle.cursor_limits.proofs.writing.write_limits.Given as goal

abbrev pub invariant-loop-i : goal.invariant-loop-i
invariant-loop-i l = (19 ≤ length l.out) × (splice (4 + 5 * l.i) (spell_fields (drop l.i l.numbers)) l.out ≡ splice 4 (spell_fields l.numbers) l.initial.out)
