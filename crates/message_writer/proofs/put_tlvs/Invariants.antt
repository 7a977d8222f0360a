-- The TLVs of the types below `kind` are laid after the header, and `at` is the place after them. Assumes nothing.
use mathlib.Core.Path.{◌≡◌}
use Rattle.wire.specs.Splice.{splice}
use Rattle.message_rules.specs.Record.{size_to}
use Rattle.message_writer.specs.Writing.{body_to}
use Rattle.message_writer.proofs.put_tlvs.Given as goal

abbrev pub invariant-loop-kind : goal.invariant-loop-kind
invariant-loop-kind l = (l.at ≡ size_to l.message l.kind) × (l.out ≡ splice 4 (body_to l.bytes l.message l.kind) l.initial.out)
