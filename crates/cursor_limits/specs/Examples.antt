-- The papers' examples, and others, read and written. Assumes nothing.
use Rattle.std.specs.Prelude.{ℕ, ◌+◌, ◌*◌, ◌≤◌, ◌<◌, ◌≡◌, refl, List, [], ◌∷◌, ◌⊎◌, length, take, replicate, Ok}
use Rattle.std.proofs.Common.{inl, inr, ⊎_elim, arith, length-append}
use Rattle.cursor_limits.specs.declared.value.Xor.{Xor}
use Rattle.cursor_limits.specs.declared.value.Xor.TheVariants as xor
use Rattle.cursor_limits.specs.declared.value.Limits.{Limits}
use Rattle.cursor_limits.specs.declared.value.Value.{Value}
use Rattle.cursor_limits.specs.declared.value.Value.TheVariants as value
use Rattle.wire.specs.Below.{all_below}
use Rattle.wire.specs.Laid.{laid}
use Rattle.wire.specs.Splice.{splice}
use Rattle.wire.specs.Numbered.{accepted_as, numbered}
use Rattle.text.specs.Abnf.{small, capital, Quoted, no_letter, letter, decimal, upper, HexDig, HexDigs, no_digit, digit}
use Rattle.text.specs.Range.{within}
use Rattle.text.specs.Hex.{digit_value, is_digit, number, read_digits, digit_of, spell_digits}
use Rattle.text.specs.Word.{lowered, same_letter, spells, raised}
use Rattle.text.proofs.Laws.Abnf.{quoted_length, hexdigs_length}
use Rattle.cursor_limits.specs.Grammar.{full_word, XorSupport, xor_none, xor_full, caps, Means, not_supported, supported}
use Rattle.cursor_limits.specs.Reading.{not_grammar, read_field, read_limits, meaning, read_value}
use Rattle.cursor_limits.specs.Writing.{spell_field, spell_limits, spelling, write_answer}
use Rattle.cursor_limits.specs.Theorems.{Sized, limits_sized, canonical}

-- 256 by 128 pixels, port 50,001
abbrev limits : Xor → Limits
limits x = record { xor = x; width = 256; height = 128; port = 50001 }

-- `full 0100 0080 C351`
abbrev pub line : List ℕ
line =
    0x66 ∷ 0x75 ∷ 0x6C ∷ 0x6C ∷ 0x20 ∷ 0x30 ∷ 0x31 ∷ 0x30 ∷ 0x30 ∷ 0x20 ∷ 0x30 ∷ 0x30 ∷ 0x38 ∷ 0x30 ∷ 0x20 ∷ 0x43 ∷ 0x33 ∷ 0x35 ∷ 0x31 ∷ []

pub capitals : read_value line ≡ Ok (value.Supported (limits xor.Full))
unfolding within all_below digit_value is_digit number read_digits lowered same_letter spells read_field read_limits meaning read_value
capitals = refl

pub capitals_written : spelling (value.Supported (limits xor.Full)) ≡ line
unfolding digit_of spell_digits spell_field spell_limits
capitals_written = refl

-- `NONE 0100 0080 c351`
abbrev mixed : List ℕ
mixed =
    0x4E ∷ 0x4F ∷ 0x4E ∷ 0x45 ∷ 0x20 ∷ 0x30 ∷ 0x31 ∷ 0x30 ∷ 0x30 ∷ 0x20 ∷ 0x30 ∷ 0x30 ∷ 0x38 ∷ 0x30 ∷ 0x20 ∷ 0x63 ∷ 0x33 ∷ 0x35 ∷ 0x31 ∷ []

pub other_case : read_value mixed ≡ Ok (value.Supported (limits xor.None))
unfolding within all_below digit_value is_digit number read_digits lowered same_letter spells read_field read_limits meaning read_value
other_case = refl

-- 003 section 4: `none`
pub none : read_value (0x6E ∷ 0x6F ∷ 0x6E ∷ 0x65 ∷ []) ≡ Ok value.NotSupported
unfolding within all_below lowered same_letter spells meaning read_value
none = refl

-- `NONE`
pub none_in_capitals : read_value (0x4E ∷ 0x4F ∷ 0x4E ∷ 0x45 ∷ []) ≡ Ok value.NotSupported
unfolding within all_below lowered same_letter spells meaning read_value
none_in_capitals = refl

-- no bytes
pub empty : read_value [] ≡ not_grammar
unfolding within all_below lowered same_letter spells meaning read_value
empty = refl

-- 003 section 4: `full 0x0200 0x0200 50001`, whose numbers aren't four hexadecimal digits
pub section_4
    : read_value
    (0x66 ∷ 0x75 ∷ 0x6C ∷ 0x6C ∷ 0x20 ∷ 0x30 ∷ 0x78 ∷ 0x30 ∷ 0x32 ∷ 0x30 ∷ 0x30 ∷ 0x20 ∷ 0x30 ∷ 0x78 ∷ 0x30 ∷ 0x32 ∷ 0x30 ∷ 0x30 ∷ 0x20
    ∷ 0x35 ∷ 0x30 ∷ 0x30 ∷ 0x30 ∷ 0x31 ∷ [])
    ≡ not_grammar
unfolding within all_below lowered same_letter spells meaning read_value
section_4 = refl

-- `full 0200 0200 0G51`: G is no digit
pub not_a_digit
    : read_value
    (0x66 ∷ 0x75 ∷ 0x6C ∷ 0x6C ∷ 0x20 ∷ 0x30 ∷ 0x32 ∷ 0x30 ∷ 0x30 ∷ 0x20 ∷ 0x30 ∷ 0x32 ∷ 0x30 ∷ 0x30 ∷ 0x20 ∷ 0x30 ∷ 0x47 ∷ 0x35 ∷ 0x31 ∷ [])
    ≡ not_grammar
unfolding within all_below digit_value is_digit number read_digits lowered same_letter spells read_field read_limits meaning read_value
not_a_digit = refl

-- The premises of the theorems are met.

-- `None`, by the grammar: each letter in either case
abbrev word : List ℕ
word = 0x4E ∷ 0x6F ∷ 0x6E ∷ 0x65 ∷ []

none_means : Means word value.NotSupported
none_means =
    not_supported
    (letter (capital 13 (omega arith)) (letter (small 14 (omega arith)) (letter (small 13 (omega arith)) (letter (small 4 (omega arith)) no_letter))))

-- `full 0100 0080 C351`
full_means : Quoted full_word full_word
full_means = letter (small 5 (omega arith)) (letter (small 20 (omega arith)) (letter (small 11 (omega arith)) (letter (small 11 (omega arith)) no_letter)))

-- four digits of these values
four
    : {b c d e w x y z : ℕ} → HexDig b w → HexDig c x → HexDig d y → HexDig e z
    → HexDigs 4 (b ∷ c ∷ d ∷ e ∷ []) (16 * (16 * (16 * (16 * 0 + w) + x) + y) + z)
four p q r s = digit (digit (digit (digit no_digit p) q) r) s

line_means : Means line (value.Supported (limits xor.Full))
line_means =
    supported
    (caps (xor_full full_means)
    (four (decimal 0 (omega arith)) (decimal 1 (omega arith)) (decimal 0 (omega arith)) (decimal 0 (omega arith)))
    (four (decimal 0 (omega arith)) (decimal 0 (omega arith)) (decimal 8 (omega arith)) (decimal 0 (omega arith)))
    (four (upper 2 (omega arith)) (decimal 3 (omega arith)) (decimal 5 (omega arith)) (decimal 1 (omega arith))))

-- AcceptsGrammar: both are read as what they mean
-- OneMeaning: and mean nothing else
pub accepts
    : (Means word value.NotSupported × (read_value word ≡ Ok value.NotSupported))
    × (Means line (value.Supported (limits xor.Full)) × (read_value line ≡ Ok (value.Supported (limits xor.Full))))
unfolding within all_below digit_value is_digit number read_digits lowered same_letter spells read_field read_limits meaning read_value
accepts = ((none_means, refl), (line_means, capitals))

-- RefusesTheRest: `none` and a space means nothing, since what means something has 4 bytes or 19
sizes : {s : List ℕ} {v : Value} → Means s v → (length s ≡ 4) ⊎ (length s ≡ 19)
sizes (not_supported q) = inl (quoted_length q)
sizes (supported (caps x w h p)) =
    inr (simp (length-append, word_length x, hexdigs_length w, hexdigs_length h, hexdigs_length p))
  where
    word_length : {a : List ℕ} {x : Xor} → XorSupport a x → length a ≡ 4
    word_length (xor_none q) = quoted_length q
    word_length (xor_full q) = quoted_length q

abbrev spaced : List ℕ
spaced = 0x6E ∷ 0x6F ∷ 0x6E ∷ 0x65 ∷ 0x20 ∷ []

pub refused : ((v : Value) → Means spaced v → ⊥) × (numbered (read_value spaced) ≡ record { number = 16; place = 0 })
unfolding within all_below lowered same_letter spells meaning read_value
refused = (λ v m. ⊎_elim (λ e. omega arith) (λ e. omega arith) (sizes m), refl)

-- TenIfShort: `none` has no room in three bytes, and has it in four
pub short
    : ((3 < length (spelling value.NotSupported)) × (numbered (write_answer value.NotSupported 3) ≡ record { number = 10; place = 0 }))
    × ((length (spelling value.NotSupported) ≤ 4) × (numbered (write_answer value.NotSupported 4) ≡ accepted_as))
unfolding write_answer
short = ((omega arith, refl), (omega arith, refl))

-- ReadsBack: the limits, written into twenty bytes
pub reads_back
    : Sized (value.Supported (limits xor.Full)) × (write_answer (value.Supported (limits xor.Full)) 20 ≡ Ok 19)
    × (read_value (take 19 (laid (spelling (value.Supported (limits xor.Full))) (replicate 20 5))) ≡ Ok (value.Supported (limits xor.Full)))
unfolding digit_of spell_digits spell_field spell_limits write_answer splice laid
    within all_below digit_value is_digit number read_digits lowered same_letter spells read_field read_limits meaning read_value
reads_back = (limits_sized {l = limits xor.Full} (omega arith) (omega arith) (omega arith), refl, refl)

-- Canonical: `NONE 0100 0080 c351` is written as `none 0100 0080 C351`
pub canonical_spelling
    : (read_value mixed ≡ Ok (value.Supported (limits xor.None)))
    × (spelling (value.Supported (limits xor.None)) ≡ canonical mixed)
unfolding digit_of spell_digits spell_field spell_limits raised canonical
    within all_below digit_value is_digit number read_digits lowered same_letter spells read_field read_limits meaning read_value
canonical_spelling = (refl, refl)
