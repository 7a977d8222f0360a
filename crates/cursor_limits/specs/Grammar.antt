-- The grammar of the cursor limits value: which byte strings are values, and what each of them means. The rules are those of 003
-- section 1.7, each below those that it uses; their form is ABNF (RFC 5234). Assumes nothing.
use Rattle.std.specs.Prelude.{ℕ, List, [], ◌∷◌, ◌++◌}
use Rattle.text.specs.Abnf.{Quoted, space, HexDigs}
use Rattle.cursor_limits.specs.declared.value.Xor.{Xor}
use Rattle.cursor_limits.specs.declared.value.Xor.TheVariants as xor
use Rattle.cursor_limits.specs.declared.value.Limits.{Limits}
use Rattle.cursor_limits.specs.declared.value.Value.{Value}
use Rattle.cursor_limits.specs.declared.value.Value.TheVariants as value

-- "none"
abbrev pub none_word : List ℕ
none_word = 0x6E ∷ 0x6F ∷ 0x6E ∷ 0x65 ∷ []

-- "full"
abbrev pub full_word : List ℕ
full_word = 0x66 ∷ 0x75 ∷ 0x6C ∷ 0x6C ∷ []

-- xor-support = "none" / "full"
pub data XorSupport : List ℕ → Xor → Type 0 where
  xor_none : {s : List ℕ} → Quoted none_word s → XorSupport s xor.None
  xor_full : {s : List ℕ} → Quoted full_word s → XorSupport s xor.Full

-- x-max = 4HEXDIG
abbrev pub XMax : List ℕ → ℕ → Type 0
XMax = HexDigs 4

-- y-max = 4HEXDIG
abbrev pub YMax : List ℕ → ℕ → Type 0
YMax = HexDigs 4

-- port = 4HEXDIG
abbrev pub Port : List ℕ → ℕ → Type 0
Port = HexDigs 4

-- sink-cursor-caps = xor-support SP x-max SP y-max SP port
pub data SinkCursorCaps : List ℕ → Limits → Type 0 where
  caps
      : {a b c d : List ℕ} {x : Xor} {w h p : ℕ} → XorSupport a x → XMax b w → YMax c h → Port d p
      → SinkCursorCaps (a ++ (space ∷ (b ++ (space ∷ (c ++ (space ∷ d)))))) (record { xor = x; width = w; height = h; port = p })

-- The first rule, the value itself: "none" / sink-cursor-caps
pub data Means : List ℕ → Value → Type 0 where
  not_supported : {s : List ℕ} → Quoted none_word s → Means s value.NotSupported
  supported : {s : List ℕ} {l : Limits} → SinkCursorCaps s l → Means s (value.Supported l)
