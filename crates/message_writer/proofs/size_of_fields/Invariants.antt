-- The fields below `kind` can be written, and `size` is the size of the header and their TLVs, each of which two bytes of Length describe, so
-- that the sum fits. Assumes nothing.
use Prim.Native.Nat.{◌≤◌, ◌+◌, ◌*◌}
use mathlib.Core.Path.{◌≡◌}
use mathlib.Core.Bool.{true}
use Rattle.wire.specs.Below.{all_below}
use Rattle.message_rules.specs.Record.{size_to}
use Rattle.message_writer.specs.Writing.{field_ok}
use Rattle.message_writer.proofs.size_of_fields.Given as goal

abbrev pub invariant-loop-kind : goal.invariant-loop-kind
invariant-loop-kind l = (all_below l.kind (field_ok l.n l.message) ≡ true) × (l.size ≡ size_to l.message l.kind) × (l.size ≤ 4 + l.kind * 65538)
