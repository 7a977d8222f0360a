-- What is said of the fields of the types below t, by one type more; and the writer's answers. Assumes nothing.
use Prim.Native.Nat.{ℕ, zero, suc, ◌+◌, ◌%◌, ◌<◌, ◌≤◌}
use mathlib.Core.Path.{◌≡◌, refl, ap, ◌∙◌}
use mathlib.Core.Bool.{Bool, true, false, not, cond}
use mathlib.Core.List.{List, [], ◌∷◌, ◌++◌, append-nil}
use mathlib.Core.Logic.{⊎_elim}
use native.Mathlib.Omega.{arith}
use native.Mathlib.Numerals.{add-one}
use borrow.Author.Tests.{leb-true, lt-ltb, le-ltb, not-true}
use lib.Dec.{leb}
use lib.ListN.{length, drop, length-append, length-drop}
use lib.Seq.{length-take-le}
use Rattle.std.specs.Prelude.{Some, None, Ok, Err}
use Rattle.std.proofs.lemmas.Option.{none-some}
use Rattle.wire.specs.Number.{bytes_in, bytes}
use Rattle.wire.specs.Splice.{splice}
use Rattle.wire.specs.Status.{refused_at}
use Rattle.wire.specs.declared.status.Refusal.TheVariants as refusal
use Rattle.wire.proofs.Laws.Number.{length_bytes}
use Rattle.wire.proofs.Laws.Splice.{length_splice}
use Rattle.wire.proofs.Laws.Written.{Written, next_part}
use Rattle.message_rules.specs.declared.record.Field.{Field}
use Rattle.message_rules.specs.declared.record.Message.{Message}
use Rattle.message_rules.specs.Rules.{role_of, foreign, needed, same_role, length_ok, known_command}
use Rattle.wire.specs.Below.{all_below}
use Rattle.message_rules.specs.Record.{field_of, value_of, tlv_size, size_to}
use Rattle.message_writer.specs.Writing.{field_ok, writable, tlv_bytes, body_to, head_bytes, message_of, write_answer, output}
use Rattle.wire.proofs.Laws.Bool.{either, both}
use Rattle.message_rules.proofs.Laws.Rules.{same_role_false, length_held}
use Rattle.message_rules.proofs.Laws.Size.{size_grows, size_there}
use Rattle.wire.proofs.Laws.Below.{below_all}

-- ---- bytes in the output

pub one_byte : (v : ℕ) → v < 256 → bytes 1 v ≡ v ∷ []
unfolding bytes_in
one_byte v h = let e : v % 256 ≡ v = omega arith in rw e

splice_front : (ds xs : List ℕ) → splice 0 ds xs ≡ ds ++ drop (length ds) xs
unfolding splice
splice_front ds xs = let e : 0 + length ds ≡ length ds = omega arith in rw e

-- ---- a field that can be written

module _ (n : ℕ) (m : Message) (t : ℕ) (ok : field_ok n m t ≡ true) where
  module _ (p : (field_of m t).present ≡ true) where
    tests
        : (not (same_role (role_of m.command t) foreign) ≡ true) × (leb ((field_of m t).at + (field_of m t).len) n ≡ true)
        × (length_ok t (field_of m t).len ≡ true)
    unfolding field_ok
    tests =
        let a = both _ _ (rw p at ok) in
        let b = both _ _ a.1 in
        (a.0, b.0, b.1)

    pub ok_expected : role_of m.command t ≡ foreign → ⊥
    ok_expected = same_role_false (role_of m.command t) foreign (not-true (same_role (role_of m.command t) foreign) tests.0)

    pub ok_within : (field_of m t).at + (field_of m t).len ≤ n
    ok_within = leb-true ((field_of m t).at + (field_of m t).len) n tests.1

    pub ok_fitting : length_ok t (field_of m t).len ≡ true
    ok_fitting = tests.2

    pub ok_small : (field_of m t).len ≤ 65535
    ok_small = length_held t (field_of m t).len ok_fitting

  pub ok_absent : (field_of m t).present ≡ false → role_of m.command t ≡ needed → ⊥
  unfolding field_ok
  ok_absent p = same_role_false (role_of m.command t) needed (not-true (same_role (role_of m.command t) needed) (rw p at ok))

-- ---- the sizes and the bytes of the fields of the types below t

module _ (m : Message) where
  module _ (s : List ℕ) where
    pub body_there : (t : ℕ) → (field_of m t).present ≡ true → body_to s m (t + 1) ≡ body_to s m t ++ tlv_bytes s t (field_of m t)
    unfolding body_to
    body_there t p = rw add-one (simp p)

    pub body_none : (t : ℕ) → (field_of m t).present ≡ false → body_to s m (t + 1) ≡ body_to s m t
    unfolding body_to
    body_none t p = rw add-one (simp (p, append-nil))

    tlv_length : (f : Field) → f.at + f.len ≤ length s → (t : ℕ) → length (tlv_bytes s t f) ≡ 3 + f.len
    tlv_length f h t =
        let room : f.len ≤ length (drop f.at s) = simp length-drop (omega arith) in
        let l : length (value_of s f) ≡ f.len = length-take-le f.len (drop f.at s) room in
        simp (length-append, length_bytes) (omega arith)

    pub body_length : (t : ℕ) → ((u : ℕ) → u < t → field_ok (length s) m u ≡ true) → 4 + length (body_to s m t) ≡ size_to m t
    unfolding body_to size_to tlv_size
    body_length zero ok = refl
    body_length (suc t) ok =
        let i = body_length t (λ u h. ok u (omega arith)) in
        let f = field_of m t in
        ⊎_elim
        (λ (p : f.present ≡ true).
        let l = tlv_length f (ok_within (length s) m t (ok t (omega arith)) p) t in
        rw (p, length-append (body_to s m t) (tlv_bytes s t f), l) (omega (arith, i)))
        (λ (p : f.present ≡ false). rw (p, append-nil) (omega (arith, i)))
        (either f.present)

-- ---- the TLVs of the types below t, laid after the header

module _ (s : List ℕ) (m : Message) (xs : List ℕ) (ok : all_below 8 (field_ok (length s) m) ≡ true) (room : size_to m 8 ≤ length xs) where
  ok_type : (t : ℕ) → t < 8 → field_ok (length s) m t ≡ true
  ok_type = below_all (field_ok (length s) m) 8 ok

  module _ (t : ℕ) where
    pub laid_length : t ≤ 8 → length (splice 4 (body_to s m t) xs) ≡ length xs
    laid_length h =
        length_splice 4 (body_to s m t) xs
        (omega (arith, body_length m s t (λ u b. ok_type u (omega arith)), size_grows m 8 t h))

    module _ (h : t < 8) (p : (field_of m t).present ≡ true) where
      pub tlv_within : (field_of m t).at + (field_of m t).len ≤ length s
      tlv_within = ok_within (length s) m t (ok_type t h) p

      pub tlv_small : (field_of m t).len ≤ 65535
      tlv_small = ok_small (length s) m t (ok_type t h) p

      pub tlv_room : size_to m t + 3 + (field_of m t).len ≤ length xs
      tlv_room = omega (arith, size_there m t p, size_grows m 8 (t + 1) (omega arith))

      pub laid_next
          : (ys zs : List ℕ) → ys ≡ splice 4 (body_to s m t) xs → zs ≡ splice (size_to m t) (tlv_bytes s t (field_of m t)) ys
          → zs ≡ splice 4 (body_to s m (t + 1)) xs
      laid_next ys zs a b =
          let l = body_length m s t (λ u b. ok_type u (omega arith)) in
          let w : Written true 4 (size_to m t) (body_to s m t) xs ys = record { all = a; end = l } in
          (next_part w (tlv_bytes s t (field_of m t)) (3 + (field_of m t).len) (tlv_length m s (field_of m t) tlv_within t) b (omega (arith, tlv_room))).all
          ∙ rw (body_there m s t p)

-- ---- a record that can be written

module _ (s : List ℕ) (m : Message) (w : writable (length s) m ≡ true) where
  parts : (known_command m.command ≡ true) × (all_below 8 (field_ok (length s) m) ≡ true) × (leb (size_to m 8) 65535 ≡ true)
  unfolding writable
  parts = let a = both _ _ w in let b = both _ _ a.1 in (a.0, b.0, b.1)

  pub known : known_command m.command ≡ true
  known = parts.0

  pub all_ok : all_below 8 (field_ok (length s) m) ≡ true
  all_ok = parts.1

  pub ok_below : (t : ℕ) → t < 8 → field_ok (length s) m t ≡ true
  ok_below = below_all (field_ok (length s) m) 8 all_ok

  pub size_small : size_to m 8 ≤ 65535
  size_small = leb-true (size_to m 8) 65535 parts.2

  -- the header and the TLVs of the types below t are as many bytes as their sizes say
  pub front_length : (t : ℕ) → t ≤ 8 → length (head_bytes (size_to m 8) m.command ++ body_to s m t) ≡ size_to m t
  front_length t h =
      let l = body_length m s t (λ u b. ok_below u (omega arith)) in
      simp (length-append, length_bytes) (omega (arith, l))

  pub message_length : length (message_of s m) ≡ size_to m 8
  unfolding message_of
  message_length = front_length 8 (omega arith)

-- ---- the writer's answers

module _ (s : List ℕ) (m : Message) (out : List ℕ) where
  pub not_writable : writable (length s) m ≡ false → (Err (refused_at refusal.NotWritable 0) ≡ write_answer s m out) × (out ≡ output s m out)
  unfolding write_answer output
  not_writable e = (simp e, simp e)

  module _ (w : writable (length s) m ≡ true) where
    pub no_room : length out < size_to m 8 → (Err (refused_at refusal.NoRoom 0) ≡ write_answer s m out) × (out ≡ output s m out)
    unfolding write_answer output
    no_room h = (simp (w, lt-ltb (length out) (size_to m 8) h), simp (w, lt-ltb (length out) (size_to m 8) h))

    pub wrote
        : size_to m 8 ≤ length out → (Ok (size_to m 8) ≡ write_answer s m out)
        × (message_of s m ++ drop (size_to m 8) out ≡ output s m out)
    unfolding write_answer output
    wrote h = (simp (w, le-ltb (length out) (size_to m 8) h), simp (w, le-ltb (length out) (size_to m 8) h))

    -- header and TLVs, laid one after the other
    pub laid
        : (xs ys : List ℕ) → size_to m 8 ≤ length out → xs ≡ splice 0 (head_bytes (size_to m 8) m.command) out → ys ≡ splice 4 (body_to s m 8) xs
        → ys ≡ output s m out
    unfolding message_of
    laid xs ys h a b =
        let head = head_bytes (size_to m 8) m.command in
        let l = message_length s m w in
        let four : length head ≡ 4 = simp (length-append, length_bytes) in
        let n = length-append head (body_to s m 8) in
        let w : Written true 0 4 head out xs = record { all = a; end = omega arith } in
        (next_part w (body_to s m 8) (length (body_to s m 8)) refl b (omega arith)).all
        ∙ splice_front (message_of s m) out
        ∙ ap (λ (k : ℕ). message_of s m ++ drop k out) l
        ∙ (wrote h).1

-- ---- the size, if it can be written

pub no_size : (b : Bool) (x : ℕ) → None ≡ cond b (Some x) None → b ≡ false
no_size true x e = absurd (none-some x e)
no_size false x e = refl
