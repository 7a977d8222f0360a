-- The theorems on writing, and on reading what was written, as named types, with 01's sentences. Their proofs stand in proofs/Laws. Assumes
-- nothing.
use Rattle.std.specs.Prelude.{ℕ, ◌+◌, ◌≤◌, ◌<◌, ◌≡◌, List, true, false, ◌⊎◌, length, take, drop, Ok}
use Rattle.wire.specs.Numbered.{refused_as, numbered}
use Rattle.wire.specs.Status.{refused_at}
use Rattle.wire.specs.declared.status.Refusal.TheVariants as refusal
use Rattle.message_rules.specs.declared.record.Message.{Message}
use Rattle.message_rules.specs.Rules.{role_of, foreign, needed, length_ok, known_command}
use Rattle.message_rules.specs.Record.{field_of, value_of, size_to}
use Rattle.message_reader.specs.Reading.{read_message}
use Rattle.wire.specs.Number.{Bytes}
use Rattle.message_writer.specs.Writing.{write_answer, output}

-- ---- The writer's numbers, exactly under their conditions

-- 18: a record that can't be written, from n lent bytes
pub data Unwritable (n : ℕ) (m : Message) : Type 0 where
  -- a place or length outside the lent bytes
  outside : (t : ℕ) → (field_of m t).present ≡ true → n < (field_of m t).at + (field_of m t).len → Unwritable n m
  -- a value of wrong length
  value_length : (t : ℕ) → (field_of m t).present ≡ true → length_ok t (field_of m t).len ≡ false → Unwritable n m
  -- no such command
  no_command : known_command m.command ≡ false → Unwritable n m
  -- TLVs not those of its command: one is foreign to it, or one that it needs is absent
  foreign_tlv : (t : ℕ) → (field_of m t).present ≡ true → role_of m.command t ≡ foreign → Unwritable n m
  absent_tlv : (t : ℕ) → (field_of m t).present ≡ false → role_of m.command t ≡ needed → Unwritable n m
  -- a declared size above 65,535
  too_long : 65535 < size_to m 8 → Unwritable n m

-- "Any writer: 18, then 10": 18 exactly for a record that can't be written; else 10 exactly where the output is shorter than needed; else
-- the number of bytes written. There is no other answer.
pub record WriterAnswers (s : List ℕ) (m : Message) (out : List ℕ) : Type 0 where
  pub unwritable : Unwritable (length s) m → numbered (write_answer s m out) ≡ refused_as (refused_at refusal.NotWritable 0)
  pub no_room : (Unwritable (length s) m → ⊥) → length out < size_to m 8 → numbered (write_answer s m out) ≡ refused_as (refused_at refusal.NoRoom 0)
  pub wrote : (Unwritable (length s) m → ⊥) → size_to m 8 ≤ length out → write_answer s m out ≡ Ok (size_to m 8)
  pub one_of : Unwritable (length s) m ⊎ (Unwritable (length s) m → ⊥)

unfoldable pub WrittenExactly : Type 0
WrittenExactly = (s : List ℕ) (m : Message) (out : List ℕ) → WriterAnswers s m out

-- "Every refusal changes nothing"; "Acceptance by a writer changes the bytes of its output and none after them."
unfoldable pub RestKept : Type 0
RestKept =
    (s : List ℕ) (m : Message) (out : List ℕ)
    → (((numbered (write_answer s m out)).number ≡ 0 → ⊥) → output s m out ≡ out)
    × ((n : ℕ) → write_answer s m out ≡ Ok n → (length (output s m out) ≡ length out) × (drop n (output s m out) ≡ drop n out))

-- ---- What is written reads back

-- Record m in the bytes s and record n in the bytes r have the same command, the same TLVs and the same values.
pub record SameMessage (s : List ℕ) (m : Message) (r : List ℕ) (n : Message) : Type 0 where
  pub command : n.command ≡ m.command
  pub present : (t : ℕ) → (field_of n t).present ≡ (field_of m t).present
  pub values : (t : ℕ) → (field_of m t).present ≡ true → value_of r (field_of n t) ≡ value_of s (field_of m t)

-- "What we write for a record reads back with the same kind and values", for any lent bytes and any record that the writer takes.
unfoldable pub ReadsBack : Type 0
ReadsBack =
    (s : List ℕ) (m : Message) (out : List ℕ) (n : ℕ) → write_answer s m out ≡ Ok n
    → (r : Message) × (read_message (take n (output s m out)) ≡ Ok r) × SameMessage s m (take n (output s m out)) r

-- ---- What was read is written back

-- The TLVs of the record stand in the message by rising type.
unfoldable pub Rising : Message → Type 0
Rising m = (t u : ℕ) → t < u → (field_of m t).present ≡ true → (field_of m u).present ≡ true → (field_of m t).at < (field_of m u).at

-- "Writing the record of an accepted message gives that message's bytes back exactly when its TLVs were in rising order." The writer takes
-- every such record, and what it writes is as long as the message.
unfoldable pub WritesBack : Type 0
WritesBack =
    (s : List ℕ) (m : Message) (out : List ℕ) → Bytes s → read_message s ≡ Ok m → length s ≤ length out
    → (write_answer s m out ≡ Ok (length s))
    × (Rising m → take (length s) (output s m out) ≡ s)
    × (take (length s) (output s m out) ≡ s → Rising m)
