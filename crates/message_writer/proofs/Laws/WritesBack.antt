-- Where the types rise, each TLV that is taken adds its bytes at the end of what is written; where the bytes are the same, the record is that
-- of what is written, whose types rise. Assumes nothing.
use Prim.Native.Nat.{ℕ, suc, ◌+◌, ◌≤◌, ◌<◌}
use mathlib.Core.Path.{◌≡◌, refl, sym, ap, ◌∙◌, subst}
use mathlib.Core.Bool.{true, false}
use mathlib.Core.List.{List, ◌++◌, append-nil, append_assoc}
use mathlib.Core.Logic.{⊎_elim}
use native.Mathlib.Omega.{arith}
use native.Mathlib.Nat.{eq-or-lt_of_le}
use borrow.Author.Tests.{le-leb}
use lib.ListN.{length, take, drop}
use lib.Seq.{take-add, drop-cons, drop-drop, take-length}
use Rattle.std.specs.Prelude.{Ok}
use Rattle.wire.specs.Number.{bytes, Bytes}
use Rattle.wire.proofs.Laws.Number.{writes_back, number_small}
use Rattle.message_rules.specs.declared.record.Field.{Field}
use Rattle.message_rules.specs.declared.record.Message.{Message}
use Rattle.message_rules.specs.Rules.{role_of, foreign, needed}
use Rattle.message_rules.specs.Record.{field_of, with_field, size_to}
use Rattle.message_reader.specs.Reading.{Answer, command_in, type_at, length_at, next_at, value_at, read_message}
use Rattle.message_writer.specs.Writing.{field_ok, writable, tlv_bytes, body_to, head_bytes, message_of, output}
use Rattle.message_reader.specs.Theorems.{Headed, RightTlv, Reached, WellFormed, AcceptedExactly, AcceptedWellFormed}
use Rattle.message_writer.specs.Theorems.{Rising, WritesBack}
use Rattle.message_reader.specs.Theorems as given
use Rattle.wire.proofs.Laws.Bool.{either, not_both}
use Rattle.message_rules.proofs.Laws.Rules.{false_same_role, type_small, type_not_1}
use Rattle.wire.proofs.Laws.Below.{all_below_lem}
use Rattle.message_rules.proofs.Laws.Record.{field_same, field_other}
use Rattle.message_reader.proofs.Laws.Reading.{accepted_exactly}
use Rattle.message_rules.proofs.Laws.Size.{size_grows, size_there}
use Rattle.message_writer.proofs.Laws.Writing.{wrote}
use Rattle.message_writer.proofs.Laws.WithField.{body_empty, body-with}
use Rattle.message_reader.proofs.Laws.WellFormed.{sound, accepted_well_formed}
use Rattle.message_writer.proofs.Laws.ReadsBack.{placed_to, placed, placed_all, read_message_lem, written_bytes}

-- ---- the writer takes the record of an accepted message

ok_field : (s : List ℕ) (m : Message) → WellFormed s m → (t : ℕ) → field_ok (length s) m t ≡ true
unfolding field_ok
ok_field s m k t =
    let f = field_of m t in
    let r = role_of m.command t in
    ⊎_elim
    (λ (p : f.present ≡ true).
    let q = k.placed t p in
    simp (
      p,
      false_same_role r foreign q.expected,
      le-leb (f.at + f.len) (length s) q.within,
      q.fitting,
    ))
    (λ (p : f.present ≡ false). simp (p, false_same_role r needed (λ e. not_both f.present (k.complete t e) p)))
    (either f.present)

accepted_writable : (s : List ℕ) (m : Message) → Bytes s → WellFormed s m → writable (length s) m ≡ true
unfolding writable
accepted_writable s m b k =
    let small = number_small true 2 0 s b in
    simp (
      k.known,
      all_below_lem (field_ok (length s) m) 8 (λ t h. ok_field s m k t),
      le-leb (size_to m 8) 65535 (omega (arith, k.size, k.filled, small)),
    )

-- ---- the bytes of an accepted message

module _ (s : List ℕ) (b : Bytes s) where
  -- header and TLV, as they are written
  head_bytes_lem : Headed s → take 4 s ≡ head_bytes (length s) (command_in s)
  head_bytes_lem h =
      let two : take 2 s ≡ bytes 2 (length s) = sym (writes_back true 2 0 s (omega (arith, h.four)) b) ∙ ap (bytes 2) h.size in
      take-add 2 2 s
      ∙ rw (two, drop-cons s 2 0 (omega (arith, h.four)), drop-cons s 3 0 (omega (arith, h.four)), h.version)

  tlv_bytes_lem : (at : ℕ) → next_at s at ≤ length s → take (next_at s at) s ≡ take at s ++ tlv_bytes s (type_at s at) (value_at s at)
  tlv_bytes_lem at h =
      let n = length_at s at in
      let e : next_at s at ≡ at + suc (2 + n) = omega arith in
      let a : suc at ≡ at + 1 = omega arith in
      let z : at + 1 + 2 ≡ at + 3 = omega arith in
      ap (λ (i : ℕ). take i s) e
      ∙ take-add at (suc (2 + n)) s
      ∙ rw (
        drop-cons s at 0 (omega arith),
        a,
        take-add 2 n (drop (at + 1) s),
        sym (writes_back true 2 (at + 1) s (omega arith) b),
        drop-drop 2 (at + 1) s,
        z,
      )

  module _ (at : ℕ) (m : Message) (r : Reached s at m) (k : RightTlv s at m) (up : Rising (with_field m (type_at s at) (value_at s at))) where
    abbrev new : Message
    new = with_field m (type_at s at) (value_at s at)

    small : type_at s at < 8
    small = type_small m.command (type_at s at) k.expected

    not_1 : type_at s at ≡ 1 → ⊥
    not_1 = type_not_1 m.command (type_at s at) k.expected

    own : field_of new (type_at s at) ≡ value_at s at
    own = field_same m (value_at s at) (type_at s at) small not_1

    -- the fields of m are still there
    kept : (u : ℕ) → (field_of m u).present ≡ true → field_of new u ≡ field_of m u
    kept u p =
        field_other m (type_at s at) u (value_at s at)
        (λ (q : type_at s at ≡ u). not_both (field_of m u).present p (ap (λ (i : ℕ). (field_of m i).present) (sym q) ∙ k.first))

    -- those before the new one have lower types
    lower : (u : ℕ) → type_at s at ≤ u → (field_of m u).present ≡ false
    unfolding Rising
    lower u h =
        ⊎_elim
        (λ (p : (field_of m u).present ≡ true).
        ⊎_elim
        (λ (q : type_at s at ≡ u). ap (λ (i : ℕ). (field_of m i).present) (sym q) ∙ k.first)
        (λ (q : type_at s at < u).
        let l = up (type_at s at) u q (ap (λ (f : Field). f.present) own) (ap (λ (f : Field). f.present) (kept u p) ∙ p) in
        let a = ap (λ (f : Field). f.at) own in
        let d = ap (λ (f : Field). f.at) (kept u p) in
        absurd (let no : ⊥ = omega (arith, l, a, d, ((sound s r).placed u p).within) in no))
        (eq-or-lt_of_le h))
        (λ p. p)
        (either (field_of m u).present)

    before : Rising m
    unfolding Rising
    before u v h p q =
        let l = up u v h (ap (λ (f : Field). f.present) (kept u p) ∙ p) (ap (λ (f : Field). f.present) (kept v q) ∙ q) in
        let a = ap (λ (f : Field). f.at) (kept u p) in
        let d = ap (λ (f : Field). f.at) (kept v q) in
        omega (arith, l, a, d)

    more : body_to s new 8 ≡ body_to s m 8 ++ tlv_bytes s (type_at s at) (value_at s at)
    more = body-with m (type_at s at) (value_at s at) small not_1 refl s lower 8 small (omega arith)

  rising_bytes : {at : ℕ} {m : Message} → Reached s at m → Rising m → take at s ≡ take 4 s ++ body_to s m 8
  rising_bytes given.start up = rw (body_empty s (command_in s) 8, append-nil)
  rising_bytes (given.next r k) up =
      tlv_bytes_lem _ k.whole
      ∙ rw (rising_bytes r (before _ _ r k up), more _ _ r k up) (append_assoc (take 4 s) _ _)

  rising_message : (m : Message) → read_message s ≡ Ok m → Rising m → message_of s m ≡ s
  unfolding message_of AcceptedExactly AcceptedWellFormed
  rising_message m e up =
      let a = (accepted_exactly s m).0 e in
      let k = accepted_well_formed s m e in
      ap (λ (n : ℕ). head_bytes n m.command ++ body_to s m 8) k.filled
      ∙ ap (λ (c : ℕ). head_bytes (length s) c ++ body_to s m 8) k.command
      ∙ ap (λ (l : List ℕ). l ++ body_to s m 8) (sym (head_bytes_lem a.headed))
      ∙ sym (rising_bytes a.reached up)
      ∙ take-length s

-- ---- the record of what is written rises

placed_rising : (m : Message) → Rising (placed_to m 8)
unfolding Rising
placed_rising m t u h p q =
    let x = there t p in
    let y = there u q in
    let a = ap (λ (f : Field). f.at) x.1 in
    let d = ap (λ (f : Field). f.at) y.1 in
    omega (arith, a, d, size_there m t x.0, size_grows m u (t + 1) (omega arith))
  where
    there : (v : ℕ) → (field_of (placed_to m 8) v).present ≡ true → ((field_of m v).present ≡ true) × (field_of (placed_to m 8) v ≡ placed m v)
    there v p =
        ⊎_elim
        (λ (e : (field_of m v).present ≡ true). (e, placed_all m v ∙ simp e))
        (λ (e : (field_of m v).present ≡ false). not_both (field_of (placed_to m 8) v).present p (simp (placed_all m v, e)))
        (either (field_of m v).present)

same_record : {a b : Message} → ◌≡◌ {A = Answer} (Ok a) (Ok b) → a ≡ b
same_record e = cc

pub writes_back_exactly : WritesBack
unfolding WritesBack AcceptedWellFormed
writes_back_exactly s m out b e room =
    let k = accepted_well_formed s m e in
    let w = accepted_writable s m b k in
    let h : size_to m 8 ≤ length out = omega (arith, k.filled) in
    let l : take (length s) (output s m out) ≡ message_of s m
    = ap (λ (n : ℕ). take n (output s m out)) (sym k.filled) ∙ written_bytes s m out w h in (
      sym (wrote s m out w h).0 ∙ ap Ok k.filled,
      λ up. l ∙ rising_message s b m e up,
      λ q.
          let r : read_message s ≡ Ok (placed_to m 8) = ap read_message (sym (sym l ∙ q)) ∙ read_message_lem s m w in
          subst Rising (sym (same_record (sym e ∙ r))) (placed_rising m),
    )
