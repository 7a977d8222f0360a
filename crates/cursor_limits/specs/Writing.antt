-- What writing a cursor limits value gives (01, "Cursor limits value": "words in small letters, hex digits in capitals"). Every record has a
-- spelling, so 18 is never given. The output afterwards is `laid (spelling v) out`. Assumes nothing.
use Rattle.std.specs.Prelude.{ℕ, List, ◌∷◌, ◌++◌, cond, leb, length, Result, Ok, Err}
use Rattle.wire.specs.declared.status.Refusal.TheVariants as refusal
use Rattle.wire.specs.declared.status.Refused.{Refused}
use Rattle.wire.specs.Status.{refused_at}
use Rattle.cursor_limits.specs.declared.value.Xor.{Xor}
use Rattle.cursor_limits.specs.declared.value.Xor.TheVariants as xor
use Rattle.cursor_limits.specs.declared.value.Limits.{Limits}
use Rattle.cursor_limits.specs.declared.value.Value.{Value}
use Rattle.cursor_limits.specs.declared.value.Value.TheVariants as value
use Rattle.text.specs.Abnf.{space}
use Rattle.cursor_limits.specs.Grammar.{none_word, full_word}
use Rattle.text.specs.Hex.{spell_digits}

abbrev pub spell_xor : Xor → List ℕ
spell_xor xor.None = none_word
spell_xor xor.Full = full_word

-- SP and four digits
unfoldable pub spell_field : ℕ → List ℕ
spell_field v = space ∷ spell_digits 4 v

-- xor-support SP x-max SP y-max SP port
unfoldable pub spell_limits : Limits → List ℕ
spell_limits l = spell_xor l.xor ++ (spell_field l.width ++ (spell_field l.height ++ spell_field l.port))

-- the canonical spelling of a value
abbrev pub spelling : Value → List ℕ
spelling value.NotSupported = none_word
spelling (value.Supported l) = spell_limits l

-- the number of its bytes, or 10 where the output has fewer
unfoldable pub write_answer : Value → ℕ → Result ℕ Refused
write_answer v room = cond (leb (length (spelling v)) room) (Ok (length (spelling v))) (Err (refused_at refusal.NoRoom 0))
