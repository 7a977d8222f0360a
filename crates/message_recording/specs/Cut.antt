-- How many bytes decide a line (01, "Session listing": "each cut by its own Size (fewer than 4 bytes left is 1, then a Size below 4 is 2)").
-- Assumes nothing.
use Rattle.std.specs.Prelude.{ℕ, List, Result}
use Rattle.std.specs.Result.{result_unwrap_or}
use Rattle.wire.specs.declared.status.Refusal.{Refusal}
use Rattle.message_reader.specs.Reading.{read_size}

-- the header's four bytes are enough to refuse a Size; else as many as Size says
abbrev pub bytes_for : Result ℕ Refusal → ℕ
bytes_for size = result_unwrap_or size 4

-- s is what was read from one place on
unfoldable pub needed_of : List ℕ → ℕ
needed_of s = bytes_for (read_size s)
