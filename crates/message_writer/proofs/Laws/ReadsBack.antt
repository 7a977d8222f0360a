-- The TLVs of what is written, from left to right, are taken one by one, up to the record of what is written. Assumes nothing.
use Prim.Native.Nat.{ℕ, zero, suc, ◌+◌, ◌≤◌, ◌<◌}
use mathlib.Core.Path.{◌≡◌, refl, sym, ap, ◌∙◌, subst}
use mathlib.Core.Bool.{true, false, cond, not}
use mathlib.Core.List.{List, [], ◌++◌, append-nil, append_assoc}
use mathlib.Core.Logic.{⊎_elim}
use native.Mathlib.Omega.{arith}
use native.Mathlib.Decide.{dec_lt}
use native.Mathlib.Nat.{eq-or-lt_of_le}
use native.Mathlib.Numerals.{add-one}
use borrow.Author.Tests.{ltb-false, not-false}
use lib.Dec.{ltb}
use lib.ListN.{length, take, drop, get_or, length-drop}
use lib.Seq.{get_or-append-add, drop-append-add, take_at, length-take-le}
use Rattle.wire.specs.Number.{number_in, bytes_in}
use Rattle.std.specs.Prelude.{Result, Ok, Err}
use Rattle.wire.specs.declared.status.Refused.{Refused}
use Rattle.message_rules.specs.declared.record.Field.{Field}
use Rattle.message_rules.specs.declared.record.Message.{Message}
use Rattle.message_rules.specs.Rules.{role_of, needed}
use Rattle.message_rules.specs.Record.{absent, field_of, value_of, with_field, empty_of, size_to}
use Rattle.message_reader.specs.Reading.{command_in, type_at, length_at, next_at, value_at, read_message}
use Rattle.message_writer.specs.Writing.{writable, tlv_bytes, body_to, head_bytes, message_of, write_answer, output}
use Rattle.message_reader.specs.Theorems.{Headed, RightTlv, Reached, AcceptedExactly}
use Rattle.message_writer.specs.Theorems.{SameMessage, ReadsBack}
use Rattle.message_reader.specs.Theorems as given
use Rattle.wire.proofs.Laws.Bool.{either, by_test}
use Rattle.message_rules.proofs.Laws.Rules.{needed_own, type_small}
use Rattle.message_rules.proofs.Laws.Record.{field_same, field_other, field_empty, field_type, past, command_with, command_empty}
use Rattle.message_reader.proofs.Laws.Reading.{accepted_exactly}
use Rattle.message_rules.proofs.Laws.Size.{size_least, size_grows, size_there}
use Rattle.message_writer.proofs.Laws.Writing.{ok_expected, ok_within, ok_fitting, ok_small, ok_absent}
use Rattle.message_rules.proofs.Laws.Size.{size_none}
use Rattle.message_writer.proofs.Laws.Writing.{body_there, known, ok_below, size_small, front_length, message_length, wrote}

-- ---- the record of what is written

-- a value's place in the message that is written
abbrev pub placed : Message → ℕ → Field
placed m t = record { present = true; at = size_to m t + 3; len = (field_of m t).len }

-- the record of the TLVs that are written, for the types below t
unfoldable pub placed_to : Message → ℕ → Message
placed_to m zero = empty_of m.command
placed_to m (suc t) = cond (field_of m t).present (with_field (placed_to m t) t (placed m t)) (placed_to m t)

module _ (m : Message) where
  -- what holds of the empty record, and of a record with one more value if it holds of the record, holds of each
  each : (P : ℕ → Message → Type 0) → P 0 (empty_of m.command)
      → ((t : ℕ) → (field_of m t).present ≡ true → P t (placed_to m t) → P (suc t) (with_field (placed_to m t) t (placed m t)))
      → ((t : ℕ) → (field_of m t).present ≡ false → P t (placed_to m t) → P (suc t) (placed_to m t)) → (k : ℕ) → P k (placed_to m k)
  unfolding placed_to
  each P z f g zero = z
  each P z f g (suc k) = by_test (P (suc k)) (field_of m k).present _ _ (λ e. f k e (each P z f g k)) (λ e. g k e (each P z f g k))

  pub placed_command : (k : ℕ) → (placed_to m k).command ≡ m.command
  placed_command =
      each (λ k n. n.command ≡ m.command) (command_empty m.command) (λ t p e. command_with (placed_to m t) t (placed m t) ∙ e) (λ t p e. e)

  -- a type that has not had its turn is absent
  pub placed_later : (k u : ℕ) → k ≤ u → field_of (placed_to m k) u ≡ absent
  placed_later =
      each (λ k n. (u : ℕ) → k ≤ u → field_of n u ≡ absent) (λ u h. field_empty m.command u)
      (λ t p e u h. field_other (placed_to m t) t u (placed m t) (λ (q : t ≡ u). omega arith) ∙ e u (omega arith))
      (λ t p e u h. e u (omega arith))

  -- one that has had its turn is at its place, or absent
  placed_field : (k u : ℕ) → u < k → field_of (placed_to m k) u ≡ cond (field_of m u).present (placed m u) absent
  placed_field =
      each (λ k n. (u : ℕ) → u < k → field_of n u ≡ cond (field_of m u).present (placed m u) absent) (λ u h. absurd (let no : ⊥ = omega arith in no))
      (λ t p e u h.
      ⊎_elim
      (λ (q : u ≡ t). let y = field_type m t p in rw q (field_same (placed_to m t) (placed m t) t y.0 y.1 ∙ simp p))
      (λ (q : u < t). field_other (placed_to m t) t u (placed m t) (λ (o : t ≡ u). omega arith) ∙ e u q)
      (eq-or-lt_of_le {n = u} {m = t} (omega arith)))
      (λ t p e u h.
      ⊎_elim
      (λ (q : u ≡ t). rw q (placed_later t t (omega arith) ∙ simp p))
      (λ (q : u < t). e u q)
      (eq-or-lt_of_le {n = u} {m = t} (omega arith)))

  pub placed_all : (u : ℕ) → field_of (placed_to m 8) u ≡ cond (field_of m u).present (placed m u) absent
  placed_all u =
      elim (dec_lt u 8) [
        | yes h ↦ placed_field 8 u h
        | no h ↦ past (placed_to m 8) u (omega arith) ∙ simp (past m u (omega arith))
      ]

-- ---- the bytes of what is written

-- the TLVs below k begin with those below t
split_body : (s : List ℕ) (m : Message) (k t : ℕ) → t ≤ k → (rest : List ℕ) × (body_to s m k ≡ body_to s m t ++ rest)
unfolding body_to
split_body s m zero t h = let q : t ≡ 0 = omega arith in ([], rw q)
split_body s m (suc k) t h =
    let x = cond (field_of m k).present (tlv_bytes s k (field_of m k)) [] in
    ⊎_elim
    (λ (q : t ≡ suc k). ([], rw (q, append-nil)))
    (λ (q : t < suc k).
    let r = split_body s m k t (omega arith) in
    (r.0 ++ x, ap (λ (l : List ℕ). l ++ x) r.1 ∙ append_assoc (body_to s m t) r.0 x))
    (eq-or-lt_of_le h)

-- what stands before the TLV of type t
abbrev front : List ℕ → Message → ℕ → List ℕ
front s m t = head_bytes (size_to m 8) m.command ++ body_to s m t

split_message
    : (s : List ℕ) (m : Message) (t : ℕ) → t < 8 → (field_of m t).present ≡ true
    → (rest : List ℕ) × (message_of s m ≡ front s m t ++ (tlv_bytes s t (field_of m t) ++ rest))
unfolding message_of
split_message s m t h p =
    let r = split_body s m 8 (t + 1) (omega arith) in
    let x = tlv_bytes s t (field_of m t) in
    let head = head_bytes (size_to m 8) m.command in (
      r.0,
      ap (λ (l : List ℕ). head ++ l) (r.1 ∙ ap (λ (l : List ℕ). l ++ r.0) (body_there m s t p) ∙ append_assoc (body_to s m t) x r.0)
          ∙ sym (append_assoc head (body_to s m t) (x ++ r.0)),
    )

-- the byte k past the front
past_front : (w f ys : List ℕ) (n k : ℕ) → w ≡ f ++ ys → length f ≡ n → get_or w (n + k) 0 ≡ get_or ys k 0
past_front w f ys n k e l = rw (e, ← l) (get_or-append-add f ys k 0)

module _ (s : List ℕ) (m : Message) (w : writable (length s) m ≡ true) where
  abbrev x : List ℕ
  x = message_of s m

  module _ (t : ℕ) (p : (field_of m t).present ≡ true) where
    h : t < 8
    h = (field_type m t p).0

    split : (rest : List ℕ) × (message_of s m ≡ front s m t ++ (tlv_bytes s t (field_of m t) ++ rest))
    split = split_message s m t h p

    here : (k : ℕ) → get_or x (size_to m t + k) 0 ≡ get_or (tlv_bytes s t (field_of m t) ++ split.0) k 0
    here k = past_front x (front s m t) (tlv_bytes s t (field_of m t) ++ split.0) (size_to m t) k split.1 (front_length s m w t (omega (arith, h)))

    type_read : type_at x (size_to m t) ≡ t
    type_read = let z : size_to m t ≡ size_to m t + 0 = omega arith in ap (λ (i : ℕ). get_or x i 0) z ∙ here 0

    length_read : length_at x (size_to m t) ≡ (field_of m t).len
    unfolding number_in bytes_in
    length_read =
        let a = here 1 in
        let b = here 2 in
        let y : size_to m t + 1 + 0 ≡ size_to m t + 1 = omega arith in
        let z : size_to m t + 1 + 1 ≡ size_to m t + 2 = omega arith in
        let l = ok_small (length s) m t (ok_below s m w t h) p in
        rw (y, z) (omega (arith, a, b, l))

    pub next_read : next_at x (size_to m t) ≡ size_to m (t + 1)
    next_read = rw length_read (sym (size_there m t p))

    value_read : value_of x (placed m t) ≡ value_of s (field_of m t)
    unfolding bytes_in
    value_read =
        let f = field_of m t in
        let v = value_of s f in
        let room : f.len ≤ length (drop f.at s) = simp length-drop (omega (arith, ok_within (length s) m t (ok_below s m w t h) p)) in
        let l = front_length s m w t (omega (arith, h)) in
        ap (λ (y : List ℕ). take f.len (drop (size_to m t + 3) y)) split.1
        ∙ ap (λ (i : ℕ). take f.len (drop (i + 3) (front s m t ++ (tlv_bytes s t f ++ split.0)))) (sym l)
        ∙ ap (take f.len) (drop-append-add (front s m t) (tlv_bytes s t f ++ split.0) 3)
        ∙ take_at v split.0 f.len (length-take-le f.len (drop f.at s) room)

    tlv_taken : RightTlv x (size_to m t) (placed_to m t)
    tlv_taken =
        let ok = ok_below s m w t h in
        record {
          whole = rw next_read (omega (arith, size_grows m 8 (t + 1) (omega (arith, h)), message_length s m w));
          expected = rw (type_read, placed_command m t) (ok_expected (length s) m t ok p);
          fitting = rw (type_read, length_read) (ok_fitting (length s) m t ok p);
          first = rw type_read (ap (λ (f : Field). f.present) (placed_later m t t (omega arith)));
        }

    step : Reached x (size_to m t) (placed_to m t) → Reached x (size_to m (suc t)) (with_field (placed_to m t) t (placed m t))
    step r =
        let n : next_at x (size_to m t) ≡ size_to m (suc t) = next_read ∙ ap (size_to m) (add-one t) in
        let v : value_at x (size_to m t) ≡ placed m t = rw length_read in
        let y = given.next r tlv_taken in
        rw (n, type_read, v) at y

  headed : Headed x
  unfolding message_of number_in bytes_in
  headed =
      record {
        four = omega (arith, message_length s m w, size_least m 8);
        size = (let z = size_small s m w in omega arith) ∙ sym (message_length s m w);
        version = refl;
        command = known s m w;
      }

  command_read : command_in x ≡ m.command
  unfolding message_of bytes_in
  command_read = refl

  begin : Reached x (size_to m 0) (empty_of m.command)
  unfolding size_to
  begin = subst (λ (c : ℕ). Reached x 4 (empty_of c)) command_read given.start

  reached : (t : ℕ) → Reached x (size_to m t) (placed_to m t)
  reached =
      each m (λ t n. Reached x (size_to m t) n) begin
      (λ t p r. step t p r)
      (λ t p r. let e : size_to m (suc t) ≡ size_to m t = ap (size_to m) (sym (add-one t)) ∙ size_none m t p in rw e r)

  complete : (t : ℕ) → role_of (placed_to m 8).command t ≡ needed → (field_of (placed_to m 8) t).present ≡ true
  complete t n =
      let c = rw (placed_command m 8) at n in
      let h : t < 8 = type_small m.command t (needed_own (role_of m.command t) c) in
      ⊎_elim
      (λ (p : (field_of m t).present ≡ true). simp (placed_all m t, p))
      (λ (p : (field_of m t).present ≡ false). absurd (ok_absent (length s) m t (ok_below s m w t h) p c))
      (either (field_of m t).present)

  -- reading the message of a record gives the record of what is written
  pub read_message_lem : read_message (message_of s m) ≡ Ok (placed_to m 8)
  unfolding AcceptedExactly
  read_message_lem =
      (accepted_exactly x (placed_to m 8)).1
      (record { headed = headed; reached = subst (λ (n : ℕ). Reached x n (placed_to m 8)) (sym (message_length s m w)) (reached 8); complete = complete })

  pub same_message : SameMessage s m (message_of s m) (placed_to m 8)
  same_message =
      record {
        command = placed_command m 8;
        present =
            λ t.
            ⊎_elim (λ (p : (field_of m t).present ≡ true). simp (placed_all m t, p))
            (λ (p : (field_of m t).present ≡ false). simp (placed_all m t, p))
            (either (field_of m t).present);
        values = λ t p. let e : field_of (placed_to m 8) t ≡ placed m t = placed_all m t ∙ simp p in rw e (value_read t p);
      }

-- ---- what the writer's answer says

pub answer_wrote
    : (s : List ℕ) (m : Message) (out : List ℕ) (n : ℕ) → write_answer s m out ≡ Ok n
    → (writable (length s) m ≡ true) × (size_to m 8 ≡ n) × (size_to m 8 ≤ length out)
unfolding write_answer
answer_wrote s m out n =
    let P : Result ℕ Refused → Type 0 = λ a. a ≡ Ok n → (writable (length s) m ≡ true) × (size_to m 8 ≡ n) × (size_to m 8 ≤ length out) in
    by_test P (not (writable (length s) m)) _ _ (λ e q. absurd (other q))
    (λ e. by_test P (ltb (length out) (size_to m 8)) _ _ (λ f q. absurd (other q))
    (λ f q. (not-false (writable (length s) m) e, same q, ltb-false (length out) (size_to m 8) f)))
  where
    other : {r : Refused} → ◌≡◌ {A = Result ℕ Refused} (Err r) (Ok n) → ⊥
    other q = let z : ◌≡◌ {A = ℕ} 0 1 = cc in omega arith

    same : {k : ℕ} → ◌≡◌ {A = Result ℕ Refused} (Ok k) (Ok n) → k ≡ n
    same q = cc

-- the bytes that were written are the message
pub written_bytes
    : (s : List ℕ) (m : Message) (out : List ℕ) → writable (length s) m ≡ true → size_to m 8 ≤ length out
    → take (size_to m 8) (output s m out) ≡ message_of s m
written_bytes s m out w h =
    ap (take (size_to m 8)) (sym (wrote s m out w h).1) ∙ take_at (message_of s m) (drop (size_to m 8) out) (size_to m 8) (message_length s m w)

pub reads_back : ReadsBack
unfolding ReadsBack
reads_back s m out n e =
    let a = answer_wrote s m out n e in
    let b : take n (output s m out) ≡ message_of s m = ap (λ (k : ℕ). take k (output s m out)) (sym a.1) ∙ written_bytes s m out a.0 a.2 in
    (placed_to m 8, rw b (read_message_lem s m a.0), rw b (same_message s m a.0))
