-- What holds of the cursor limits value: the definitions that the contracts cite, `read_value` and `spelling`, are the grammar's. The proofs
-- stand in proofs/Laws/Theorems.antt. Assumes nothing.
use Rattle.std.specs.Prelude.{ℕ, ◌≤◌, ◌<◌, ◌≡◌, List, ◌++◌, map, length, take, drop, Ok}
use Rattle.cursor_limits.specs.declared.value.Limits.{Limits}
use Rattle.cursor_limits.specs.declared.value.Value.{Value}
use Rattle.cursor_limits.specs.declared.value.Value.TheVariants as value
use Rattle.wire.specs.declared.status.Refusal.TheVariants as refusal
use Rattle.wire.specs.Numbered.{accepted_as, refused_as, numbered}
use Rattle.wire.specs.Status.{refused_at}
use Rattle.cursor_limits.specs.Grammar.{Means}
use Rattle.wire.specs.Laid.{laid}
use Rattle.text.specs.Word.{lowered, raised}
use Rattle.cursor_limits.specs.Reading.{read_value}
use Rattle.cursor_limits.specs.Writing.{spelling, write_answer}

-- The reader accepts exactly the strings of the grammar, each with its meaning.
unfoldable pub AcceptsGrammar : Type 0
AcceptsGrammar =
    (s : List ℕ) (v : Value) → (Means s v → read_value s ≡ Ok v) × (read_value s ≡ Ok v → Means s v)

-- Every other string is 16 at place 0, and no string of the grammar is.
unfoldable pub RefusesTheRest : Type 0
RefusesTheRest =
    (s : List ℕ)
    → (((v : Value) → Means s v → ⊥) → numbered (read_value s) ≡ refused_as (refused_at refusal.NotGrammar 0))
    × ((numbered (read_value s)).number ≡ 16 → (v : Value) → Means s v → ⊥)

-- A string of the grammar has one meaning.
unfoldable pub OneMeaning : Type 0
OneMeaning = (s : List ℕ) (v w : Value) → Means s v → Means s w → v ≡ w

-- The numbers of a record are numbers of 16 bits, as they are in the code.
pub data Sized : Value → Type 0 where
  none_sized : Sized value.NotSupported
  limits_sized : {l : Limits} → l.width < 65536 → l.height < 65536 → l.port < 65536 → Sized (value.Supported l)

-- The writer's answer is 10 at place 0 exactly where the output is shorter than the spelling, and 0 otherwise.
unfoldable pub TenIfShort : Type 0
TenIfShort =
    (v : Value) (room : ℕ)
    → (room < length (spelling v) → numbered (write_answer v room) ≡ refused_as (refused_at refusal.NoRoom 0))
    × (length (spelling v) ≤ room → numbered (write_answer v room) ≡ accepted_as)

-- What is written for a record reads back as the same record.
unfoldable pub ReadsBack : Type 0
ReadsBack =
    (v : Value) (out : List ℕ) (n : ℕ) → Sized v → write_answer v (length out) ≡ Ok n
    → read_value (take n (laid (spelling v) out)) ≡ Ok v

-- s with its word in small letters and its digits in capitals
unfoldable pub canonical : List ℕ → List ℕ
canonical s = map lowered (take 4 s) ++ map raised (drop 4 s)

-- Reading a string and writing what it means gives the string's canonical spelling, which means the same.
unfoldable pub Canonical : Type 0
Canonical =
    (s : List ℕ) (v : Value) → read_value s ≡ Ok v → Sized v × (spelling v ≡ canonical s) × Means (spelling v) v
