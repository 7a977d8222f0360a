-- What reading a cursor limits value gives (01, "Cursor limits value"). `Theorems` says that this is the grammar. Assumes nothing.
use Rattle.std.specs.Prelude.{ℕ, List, cond, eqb, length, get_or, take, drop, Option, Some, None, Result, Err}
use Rattle.std.specs.Option.{ok_or, option_map}
use Rattle.wire.specs.declared.status.Refusal.TheVariants as refusal
use Rattle.wire.specs.declared.status.Refused.{Refused}
use Rattle.wire.specs.Status.{refused_at}
use Rattle.wire.specs.Splice.{part}
use Rattle.cursor_limits.specs.declared.value.Xor.{Xor}
use Rattle.cursor_limits.specs.declared.value.Xor.TheVariants as xor
use Rattle.cursor_limits.specs.declared.value.Limits.{Limits}
use Rattle.cursor_limits.specs.declared.value.Value.{Value}
use Rattle.cursor_limits.specs.declared.value.Value.TheVariants as value
use Rattle.text.specs.Abnf.{space}
use Rattle.cursor_limits.specs.Grammar.{none_word, full_word}
use Rattle.text.specs.Hex.{read_digits}
use Rattle.text.specs.Word.{spells}

-- the text is not of the grammar: 16, at place 0
abbrev pub not_grammar : Result Value Refused
not_grammar = Err (refused_at refusal.NotGrammar 0)

-- SP and the digits after it
unfoldable pub read_field : List ℕ → Option ℕ
read_field s = cond (eqb (get_or s 0 0) space) (read_digits (drop 1 s)) None

-- the limits, where width, height and port are numbers
abbrev pub limits_of : Xor → Option ℕ → Option ℕ → Option ℕ → Option Limits
limits_of x None h p = None
limits_of x (Some w) None p = None
limits_of x (Some w) (Some h) None = None
limits_of x (Some w) (Some h) (Some p) = Some (record { xor = x; width = w; height = h; port = p })

-- SP x-max SP y-max SP port, after the four letters of the xor support
unfoldable pub read_limits : Xor → List ℕ → Option Limits
read_limits x s = limits_of x (read_field (part 4 5 s)) (read_field (part 9 5 s)) (read_field (part 14 5 s))

-- "none", or 19 bytes: the xor support, and the limits
unfoldable pub meaning : List ℕ → Option Value
meaning s =
    cond (spells none_word s) (Some value.NotSupported)
    (cond (eqb (length s) 19)
    (cond (spells none_word (take 4 s)) (option_map value.Supported (read_limits xor.None s))
    (cond (spells full_word (take 4 s)) (option_map value.Supported (read_limits xor.Full s))
    None))
    None)

-- what the bytes mean, or the refusal
unfoldable pub read_value : List ℕ → Result Value Refused
read_value s = ok_or (meaning s) (refused_at refusal.NotGrammar 0)
