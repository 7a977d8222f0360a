-- The text of a line, in ASCII (01, "Session listing"). Assumes nothing.
use Rattle.std.specs.Prelude.{◌≡◌, ℕ, zero, suc, ◌+◌, ◌/◌, ◌%◌, cond, List, [], ◌∷◌, ◌++◌, length, take, nat_lt}
use Rattle.wire.specs.Status.{refusal_number}
use Rattle.message_recording.specs.declared.line.Line.{Line}
use Rattle.message_recording.specs.declared.line.Line.TheVariants as line

-- n in decimal, of at most k digits: the last digit after those of the tenth part
unfoldable pub decimal_to : ℕ → ℕ → List ℕ
decimal_to zero n = []
decimal_to (suc k) n = cond (nat_lt n 10) ((48 + n) ∷ []) (decimal_to k (n / 10) ++ ((48 + n % 10) ∷ []))

-- a number of 64 bits has at most 20 digits
unfoldable pub decimal : ℕ → List ℕ
decimal n = decimal_to 20 n

abbrev pub newline : List ℕ
newline = 10 ∷ []

abbrev pub space : List ℕ
space = 32 ∷ []

-- `end `
abbrev pub end_word : List ℕ
end_word = 101 ∷ 110 ∷ 100 ∷ 32 ∷ []

-- ` refused `
abbrev pub refused_word : List ℕ
refused_word = 32 ∷ 114 ∷ 101 ∷ 102 ∷ 117 ∷ 115 ∷ 101 ∷ 100 ∷ 32 ∷ []

abbrev pub message_text : ℕ → ℕ → ℕ → List ℕ
message_text place c n = ((((decimal place ++ space) ++ decimal c) ++ space) ++ decimal n) ++ newline

abbrev pub refused_text : ℕ → ℕ → List ℕ
refused_text place number = ((decimal place ++ refused_word) ++ decimal number) ++ newline

abbrev pub end_text : ℕ → List ℕ
end_text place = (end_word ++ decimal place) ++ newline

-- "its place in the file, command, size"; at a refusal its place and number; at the end the number of bytes
abbrev pub text_of : ℕ → Line → List ℕ
text_of place (line.Message c n) = message_text place c n
text_of place (line.Refused refusal) = refused_text place (refusal_number refusal)
text_of place line.End = end_text place

-- `text` was put after the first `at` of the bytes `before`, and r is the place after it
pub record Put (before : List ℕ) (at : ℕ) (text : List ℕ) (r : ℕ) (out : List ℕ) : Type 0 where
  pub place : r ≡ at + length text
  pub bytes : take r out ≡ take at before ++ text
