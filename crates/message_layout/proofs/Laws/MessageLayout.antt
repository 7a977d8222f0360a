-- Fields written one right after the other are the record's bytes, and each reads back at its place. Assumes nothing.
use Prim.Native.Nat.{ℕ, ◌+◌, ◌^◌, ◌≤◌, ◌<◌}
use mathlib.Core.Path.{◌≡◌, sym}
use mathlib.Core.Bool.{true}
use mathlib.Core.List.{List, [], ◌++◌, append_assoc}
use native.Mathlib.Omega.{arith}
use lib.ListN.{length, length-append}
use Rattle.wire.specs.Splice.{splice}
use Rattle.wire.proofs.Laws.Number.{number_small}
use Rattle.message_rules.specs.declared.record.Field.{Field}
use Rattle.message_rules.specs.declared.record.Message.{Message}
use Rattle.message_rules.specs.Record.{field_of}
use Rattle.message_reader.specs.Theorems.{AcceptedExactly}
use Rattle.message_reader.proofs.Laws.Reading.{accepted_exactly}
use Rattle.message_reader.proofs.Laws.WellFormed.{each_field, sound}
use Rattle.wire.specs.Laid.{laid}
use Rattle.wire.specs.Layout.{flag}
use Rattle.wire.specs.LittleEndian.{bytes, written}
use Rattle.message_layout.specs.MessageLayout.{field_bytes, field_in, message_bytes, message_in, Fits, MessageBack, AcceptedBack}
use Rattle.wire.proofs.Laws.Layout.{nothing, Begins, laid_begins, before_part, before, number_in, flag_in}
use Rattle.wire.proofs.Laws.Written.{next, next_part, whole}
use Rattle.wire.proofs.Laws.Number.{length_bytes}

pub length_field : (f : Field) → length (field_bytes f) ≡ 9
unfolding field_bytes
length_field f = simp (length-append, length_bytes)

pub length_message : (m : Message) → length (message_bytes m) ≡ 64
unfolding message_bytes
length_message m = simp (length-append, length_bytes, length_field)

pub field_written
    : (f : Field) (at : ℕ) (xs ys zs ws : List ℕ) → at + 9 ≤ length xs → ys ≡ written 1 (flag f.present) at xs
    → zs ≡ written 4 f.at (at + 1) ys → ws ≡ written 4 f.len (at + 5) zs → ws ≡ splice at (field_bytes f) xs
unfolding field_bytes
field_written f at xs ys zs ws h p q r =
    let i : at + 5 ≡ at + 1 + 4 = omega arith in
    let present = next (nothing at xs) 1 (flag f.present) p (omega arith) in
    let place = next present 4 f.at q (omega arith) in
    (next place 4 f.len (rw i at r) (omega arith)).all

pub message_written_lem
    : (m : Message) (xs a b d e f g h i : List ℕ) → 64 ≤ length xs → a ≡ written 1 m.command 0 xs
    → b ≡ splice 1 (field_bytes m.friendly_name) a
    → d ≡ splice 10 (field_bytes m.rtsp_port) b
    → e ≡ splice 19 (field_bytes m.source_id) d
    → f ≡ splice 28 (field_bytes m.security_token) e
    → g ≡ splice 37 (field_bytes m.security_options) f
    → h ≡ splice 46 (field_bytes m.pin_challenge) g
    → i ≡ splice 55 (field_bytes m.pin_reason) h
    → i ≡ laid (message_bytes m) xs
unfolding message_bytes
message_written_lem m xs a b d e f g h i room c p q r s t u v =
    let command = next (nothing 0 xs) 1 m.command c (omega arith) in
    let name = next_part command (field_bytes m.friendly_name) 9 (length_field m.friendly_name) p (omega arith) in
    let port = next_part name (field_bytes m.rtsp_port) 9 (length_field m.rtsp_port) q (omega arith) in
    let source = next_part port (field_bytes m.source_id) 9 (length_field m.source_id) r (omega arith) in
    let token = next_part source (field_bytes m.security_token) 9 (length_field m.security_token) s (omega arith) in
    let options = next_part token (field_bytes m.security_options) 9 (length_field m.security_options) t (omega arith) in
    let challenge = next_part options (field_bytes m.pin_challenge) 9 (length_field m.pin_challenge) u (omega arith) in
    whole (next_part challenge (field_bytes m.pin_reason) 9 (length_field m.pin_reason) v (omega arith)) room

-- the field in the last 9 bytes
module _ (at : ℕ) (ds : List ℕ) (f : Field) {s : List ℕ} (b : Begins (at + 9) (ds ++ field_bytes f) s) where
  before_field : Begins at ds s
  before_field = before_part at ds 9 (field_bytes f) (length_field f) b

  field_in_lem : Fits f → field_in s at ≡ f
  unfolding field_bytes field_in
  field_in_lem held =
      let p = bytes 1 (flag f.present) in
      let a = bytes 4 f.at in
      let n = bytes 4 f.len in
      let i : at + 9 ≡ at + 5 + 4 = omega arith in
      let j : at + 5 ≡ at + 1 + 4 = omega arith in
      let all : Begins (at + 5 + 4) (ds ++ p ++ a ++ n) s = rw (append_assoc (ds ++ p) a n, append_assoc ds p (a ++ n), ← append_assoc p a n, sym i) b in
      let two : Begins (at + 1 + 4) (ds ++ p ++ a) s = rw (sym j) (before (at + 5) (ds ++ p ++ a) 4 f.len all) in
      let one : Begins (at + 1) (ds ++ p) s = before (at + 1) (ds ++ p) 4 f.at two in
      rw (
        flag_in at ds f.present one,
        number_in (at + 1) (ds ++ p) 4 f.at held.0 two,
        number_in (at + 5) (ds ++ p ++ a) 4 f.len held.1 all,
      )

pub message_back : MessageBack
unfolding message_bytes message_in field_of
message_back m xs room small held =
    let s = laid (message_bytes m) xs in
    let d1 = bytes 1 m.command in
    let d2 = d1 ++ field_bytes m.friendly_name in
    let d3 = d2 ++ field_bytes m.rtsp_port in
    let d4 = d3 ++ field_bytes m.source_id in
    let d5 = d4 ++ field_bytes m.security_token in
    let d6 = d5 ++ field_bytes m.security_options in
    let d7 = d6 ++ field_bytes m.pin_challenge in
    let b8 : Begins 64 (d7 ++ field_bytes m.pin_reason) s = laid_begins 64 (message_bytes m) xs (length_message m) room in
    let b7 : Begins 55 d7 s = before_field 55 d7 m.pin_reason b8 in
    let b6 : Begins 46 d6 s = before_field 46 d6 m.pin_challenge b7 in
    let b5 : Begins 37 d5 s = before_field 37 d5 m.security_options b6 in
    let b4 : Begins 28 d4 s = before_field 28 d4 m.security_token b5 in
    let b3 : Begins 19 d3 s = before_field 19 d3 m.source_id b4 in
    let b2 : Begins 10 d2 s = before_field 10 d2 m.rtsp_port b3 in
    let b1 : Begins 1 d1 s = before_field 1 d1 m.friendly_name b2 in
    rw (
      number_in 0 [] 1 m.command small b1,
      field_in_lem 1 d1 m.friendly_name b2 (held 0),
      field_in_lem 10 d2 m.rtsp_port b3 (held 2),
      field_in_lem 19 d3 m.source_id b4 (held 3),
      field_in_lem 28 d4 m.security_token b5 (held 4),
      field_in_lem 37 d5 m.security_options b6 (held 5),
      field_in_lem 46 d6 m.pin_challenge b7 (held 6),
      field_in_lem 55 d7 m.pin_reason b8 (held 7),
    )

pub accepted_back : AcceptedBack
unfolding AcceptedExactly
accepted_back s m xs small e room =
    let a = (accepted_exactly s m).0 e in
    let size : length s < 256 ^ 2 = rw (sym a.headed.size) (number_small true 2 0 s small) in
    let command = (sound s a.reached).command in
    message_back m xs room (omega (arith, small 3))
    (λ t.
    let h = each_field s (λ (f : Field). f.at + f.len ≤ length s) (omega arith) (λ at n k. k.whole) a.reached t in
    (omega arith, omega arith))
