-- What writing a record gives (01: "TLVs come .. by rising type when written"; "Any writer: 18, then 10"). Assumes nothing.
use Rattle.std.specs.Prelude.{ℕ, zero, suc, ◌+◌, List, [], ◌∷◌, ◌++◌, Bool, cond, not, ◌&&◌, length, drop, ltb, leb, Result, Ok, Err}
use Rattle.wire.specs.Number.{bytes}
use Rattle.wire.specs.Status.{refused_at}
use Rattle.wire.specs.declared.status.Refusal.TheVariants as refusal
use Rattle.wire.specs.declared.status.Refused.{Refused}
use Rattle.message_rules.specs.declared.record.Field.{Field}
use Rattle.message_rules.specs.declared.record.Message.{Message}
use Rattle.message_rules.specs.Rules.{role_of, foreign, needed, same_role, length_ok, known_command}
use Rattle.wire.specs.Below.{all_below}
use Rattle.message_rules.specs.Record.{field_of, value_of, size_to}

-- the field of type t can be written, from n lent bytes: one that is there belongs to the command, lies within them and has a length of its
-- type; one that is not there is not needed
unfoldable pub field_ok : ℕ → Message → ℕ → Bool
field_ok n m t =
    cond (field_of m t).present
    (not (same_role (role_of m.command t) foreign)
    && (leb ((field_of m t).at + (field_of m t).len) n && length_ok t (field_of m t).len))
    (not (same_role (role_of m.command t) needed))

-- 18 is not due: there is such a command, its TLVs are those of the command, each can be written, and Size holds the number of bytes
unfoldable pub writable : ℕ → Message → Bool
writable n m = known_command m.command && (all_below 8 (field_ok n m) && leb (size_to m 8) 65535)

-- a TLV: Type, Length, Value
abbrev pub tlv_bytes : List ℕ → ℕ → Field → List ℕ
tlv_bytes s t f = t ∷ (bytes 2 f.len ++ value_of s f)

-- the TLVs of the types below t, by rising type
unfoldable pub body_to : List ℕ → Message → ℕ → List ℕ
body_to s m zero = []
body_to s m (suc t) = body_to s m t ++ cond (field_of m t).present (tlv_bytes s t (field_of m t)) []

-- Size, Version, Command
abbrev pub head_bytes : ℕ → ℕ → List ℕ
head_bytes size c = bytes 2 size ++ (1 ∷ c ∷ [])

-- the message of record m, whose values stand in s
unfoldable pub message_of : List ℕ → Message → List ℕ
message_of s m = head_bytes (size_to m 8) m.command ++ body_to s m 8

-- the answer
unfoldable pub write_answer : List ℕ → Message → List ℕ → Result ℕ Refused
write_answer s m out =
    cond (not (writable (length s) m)) (Err (refused_at refusal.NotWritable 0))
    (cond (ltb (length out) (size_to m 8)) (Err (refused_at refusal.NoRoom 0))
    (Ok (size_to m 8)))

-- the output after an answer: the message and then the output's own bytes, or the output as it was
abbrev pub output_after : Result ℕ Refused → List ℕ → List ℕ → List ℕ
output_after (Ok n) message out = message ++ drop n out
output_after (Err r) message out = out

unfoldable pub output : List ℕ → Message → List ℕ → List ℕ
output s m out = output_after (write_answer s m out) (message_of s m) out
