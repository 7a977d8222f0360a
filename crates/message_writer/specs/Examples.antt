-- Records that meet the premises of the theorems, from the message of 8 bytes of `message_reader Examples`. Each is computed. Assumes nothing.
use Rattle.std.specs.Prelude.{ℕ, ◌+◌, ◌≤◌, ◌<◌, ◌≡◌, refl, List, [], ◌∷◌, ◌++◌, true, false, length, take, replicate, Ok}
use Rattle.std.proofs.Common.{arith}
use Rattle.wire.specs.Below.{all_below}
use Rattle.wire.specs.Checks.{first_of}
use Rattle.wire.specs.Number.{number_in, bytes_in, Bytes}
use Rattle.wire.specs.Numbered.{numbered}
use Rattle.wire.proofs.Laws.Below.{bytes_computed}
use Rattle.wire.proofs.Laws.Bool.{not_both}
use Rattle.message_rules.specs.declared.record.Message.{Message}
use Rattle.message_rules.specs.Rules.{foreign, needed, roles_of, role_of, lengths_of, length_in, length_ok, known_command}
use Rattle.message_rules.specs.Record.{absent, field_of, with_field, empty_of, tlv_size, size_to}
use Rattle.message_rules.proofs.Laws.Rules.{needed_own, each_type}
use Rattle.message_rules.proofs.Laws.Record.{field_type}
use Rattle.message_reader.specs.Reading.{header_status, tlv_at, has_needed, is_complete, last_of, tlvs_from, read_message}
use Rattle.message_reader.specs.Examples.{there, record_of, handshake, handshake_record, complete}
use Rattle.message_writer.specs.Writing.{field_ok, writable, body_to, message_of, write_answer, output}
use Rattle.message_writer.specs.Theorems.{Unwritable, Rising}
use Rattle.message_writer.specs.Theorems as given

-- The premises of the theorems are met.

-- WrittenExactly: each reason for 18
abbrev Met : Message → Type 0
Met m = Unwritable 8 m × (numbered (write_answer handshake m []) ≡ record { number = 18; place = 0 })

-- a value of two bytes from the last one on
pub outside : Met (record_of 3 absent absent (there 7 2))
unfolding roles_of role_of lengths_of length_in length_ok known_command field_of tlv_size size_to all_below field_ok writable write_answer
outside = (given.outside 4 refl (omega arith), refl)

-- a Security Token of no bytes
pub value_length : Met (record_of 3 absent absent (there 7 0))
unfolding roles_of role_of lengths_of length_in length_ok known_command field_of tlv_size size_to all_below field_ok writable write_answer
value_length = (given.value_length 4 refl refl, refl)

-- command 7
pub no_command : Met (record_of 7 absent absent (there 7 1))
unfolding roles_of role_of lengths_of length_in length_ok known_command field_of tlv_size size_to all_below field_ok writable write_answer
no_command = (given.no_command refl, refl)

-- a Security Handshake with an RTSP Port, and one without a Security Token
pub foreign_tlv : Met (record_of 3 (there 6 2) absent (there 7 1))
unfolding roles_of role_of lengths_of length_in length_ok known_command field_of tlv_size size_to all_below field_ok writable write_answer
foreign_tlv = (given.foreign_tlv 2 refl refl, refl)

pub absent_tlv : Met (record_of 3 absent absent absent)
unfolding roles_of role_of lengths_of length_in length_ok known_command field_of tlv_size size_to all_below field_ok writable write_answer
absent_tlv = (given.absent_tlv 4 refl refl, refl)

-- a Security Token of 65,535 bytes, all of which are lent
abbrev long : Message
long = record_of 3 absent absent (there 7 65535)

pub too_long : (s : List ℕ) → length s ≡ 65542 → Unwritable (length s) long × (numbered (write_answer s long []) ≡ record { number = 18; place = 0 })
unfolding roles_of role_of lengths_of length_in length_ok known_command field_of tlv_size size_to all_below field_ok writable write_answer
too_long s e = (given.too_long (omega arith), rw e refl)

-- a record without such a reason: its one value is the Security Token
no : {A : Type 0} → false ≡ true → A
no e = not_both false e refl

only_token : (P : ℕ → Type 0) → P 4 → (t : ℕ) → (field_of handshake_record t).present ≡ true → P t
unfolding field_of
only_token P p t e =
    each_type (λ u. (field_of handshake_record u).present ≡ true → P u) no no no no (λ f. p) no no no t (field_type handshake_record t e).0 e

can_be_written : Unwritable 8 handshake_record → ⊥
unfolding roles_of role_of lengths_of length_in length_ok known_command field_of tlv_size size_to
can_be_written (given.outside t p h) =
    only_token (λ u. 8 < (field_of handshake_record u).at + (field_of handshake_record u).len → ⊥) (λ l. omega arith) t p h
can_be_written (given.value_length t p e) =
    only_token (λ u. length_ok u (field_of handshake_record u).len ≡ false → ⊥) (λ f. not_both true refl f) t p e
can_be_written (given.no_command e) = not_both true refl e
can_be_written (given.foreign_tlv t p e) = only_token (λ u. role_of 3 u ≡ foreign → ⊥) (needed_own needed refl) t p e
can_be_written (given.absent_tlv t p e) = not_both (field_of handshake_record t).present (complete t e) p
can_be_written (given.too_long h) = omega arith

-- 10 for an output of seven bytes; eight bytes written to one of nine
pub no_room
    : (Unwritable (length handshake) handshake_record → ⊥) × (7 < size_to handshake_record 8)
    × (numbered (write_answer handshake handshake_record (replicate 7 5)) ≡ record { number = 10; place = 0 })
unfolding roles_of role_of lengths_of length_in length_ok known_command field_of tlv_size size_to all_below field_ok writable write_answer
no_room = (can_be_written, omega arith, refl)

pub wrote : (size_to handshake_record 8 ≤ 9) × (write_answer handshake handshake_record (replicate 9 5) ≡ Ok 8)
unfolding roles_of role_of lengths_of length_in length_ok known_command field_of tlv_size size_to all_below field_ok writable write_answer
wrote = (omega arith, refl)

-- RestKept: the output of seven bytes stays, and of the nine the last
pub rest_kept
    : ((numbered (write_answer handshake handshake_record (replicate 7 5))).number ≡ 0 → ⊥)
    × (output handshake handshake_record (replicate 7 5) ≡ replicate 7 5)
    × (write_answer handshake handshake_record (replicate 9 5) ≡ Ok 8)
    × (output handshake handshake_record (replicate 9 5) ≡ handshake ++ (5 ∷ []))
unfolding roles_of role_of lengths_of length_in length_ok known_command field_of tlv_size size_to all_below field_ok writable write_answer bytes_in
    body_to message_of output
rest_kept = (λ e. omega arith, refl, refl, refl)

-- ReadsBack: so what is written reads back
pub reads_back
    : (write_answer handshake handshake_record (replicate 9 5) ≡ Ok 8)
    × (read_message (take 8 (output handshake handshake_record (replicate 9 5))) ≡ Ok handshake_record)
unfolding roles_of role_of lengths_of length_in length_ok known_command field_of tlv_size size_to all_below field_ok writable write_answer bytes_in
    body_to message_of output number_in with_field empty_of has_needed is_complete first_of header_status tlv_at last_of tlvs_from read_message
reads_back = (refl, refl)

-- WritesBack: a Source ID and then a Security Token, which rise, are written as they were read
abbrev rising : List ℕ
rising = 0 ∷ 27 ∷ 1 ∷ 3 ∷ 3 ∷ 0 ∷ 16 ∷ (replicate 16 7 ++ (4 ∷ 0 ∷ 1 ∷ 9 ∷ []))

abbrev rising_record : Message
rising_record = record_of 3 absent (there 7 16) (there 26 1)

source_then_token : (P : ℕ → Type 0) → P 3 → P 4 → (t : ℕ) → (field_of rising_record t).present ≡ true → P t
unfolding field_of
source_then_token P p q t e =
    each_type (λ u. (field_of rising_record u).present ≡ true → P u) no no no (λ f. p) (λ f. q) no no no t (field_type rising_record t e).0 e

rises : Rising rising_record
unfolding Rising field_of
rises t u h p q =
    source_then_token (λ x. x < u → (field_of rising_record x).at < (field_of rising_record u).at)
    (source_then_token (λ y. 3 < y → 7 < (field_of rising_record y).at) (λ l. absurd (let none : ⊥ = omega arith in none)) (λ l. omega arith) u q)
    (source_then_token (λ y. 4 < y → 26 < (field_of rising_record y).at) (λ l. absurd (let none : ⊥ = omega arith in none))
    (λ l. absurd (let none : ⊥ = omega arith in none)) u q)
    t p h

pub writes_back
    : Bytes rising × (read_message rising ≡ Ok rising_record) × (length rising ≤ 27)
    × (write_answer rising rising_record (replicate 27 5) ≡ Ok 27) × Rising rising_record
    × (take 27 (output rising rising_record (replicate 27 5)) ≡ rising)
unfolding roles_of role_of lengths_of length_in length_ok known_command field_of tlv_size size_to all_below field_ok writable write_answer bytes_in
    body_to message_of output number_in with_field empty_of has_needed is_complete first_of header_status tlv_at last_of tlvs_from read_message
writes_back = (bytes_computed rising refl, refl, omega arith, refl, rises, refl)

-- the other way round, they are written by rising type
abbrev falling : List ℕ
falling = 0 ∷ 27 ∷ 1 ∷ 3 ∷ 4 ∷ 0 ∷ 1 ∷ 9 ∷ 3 ∷ 0 ∷ 16 ∷ replicate 16 7

abbrev falling_record : Message
falling_record = record_of 3 absent (there 11 16) (there 7 1)

pub writes_otherwise
    : Bytes falling × (read_message falling ≡ Ok falling_record) × (length falling ≤ 27)
    × (write_answer falling falling_record (replicate 27 5) ≡ Ok 27) × (Rising falling_record → ⊥)
    × (take 27 (output falling falling_record (replicate 27 5)) ≡ rising)
unfolding roles_of role_of lengths_of length_in length_ok known_command field_of tlv_size size_to all_below field_ok writable write_answer bytes_in
    body_to message_of output Rising number_in with_field empty_of has_needed is_complete first_of header_status tlv_at last_of tlvs_from read_message
writes_otherwise = (
  bytes_computed falling refl,
  refl,
  omega arith,
  refl,
  λ up. let l : 11 < 7 = up 3 4 (omega arith) refl refl in omega arith,
  refl,
)
