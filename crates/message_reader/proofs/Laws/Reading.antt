-- Each test of the definition gives the condition of its answer, and the conditions give the tests. Assumes nothing.
use Prim.Native.Nat.{ℕ, zero, suc, ◌+◌, ◌≤◌, ◌<◌}
use mathlib.Core.Path.{◌≡◌, refl, sym, ap, ◌∙◌, subst}
use mathlib.Core.List.{List}
use mathlib.Core.Bool.{true, false}
use mathlib.Core.Logic.{inl, inr}
use native.Mathlib.Omega.{arith}
use borrow.Author.Tests.{ltb-true, ltb-false, lt-ltb, le-ltb, eqb-true, eqb-false, ne_eqb, not-true, not-false}
use lib.Dec.{ltb, eqb}
use lib.ListN.{length, get_or}
use Rattle.std.specs.Prelude.{Result, Ok, Err}
use Rattle.std.proofs.lemmas.Result.{IfErr-at_err}
use Rattle.wire.specs.Checks.{first_of}
use Rattle.wire.specs.Numbered.{Numbered, numbered, refused_as}
use Rattle.wire.specs.Status.{Status, refusal_number, passed, refused_at}
use Rattle.wire.specs.declared.status.Refusal.{Refusal as Reason}
use Rattle.wire.specs.declared.status.Refusal.TheVariants as refusal
use Rattle.message_rules.specs.declared.record.Field.{Field}
use Rattle.message_rules.specs.declared.record.Message.{Message}
use Rattle.message_reader.specs.declared.tlv.Tlv.{Tlv}
use Rattle.message_rules.specs.Rules.{role_of, foreign, needed, same_role, length_ok, known_command}
use Rattle.message_rules.specs.Record.{field_of, with_field, empty_of}
use Rattle.message_reader.specs.Reading.{Answer, size_in, version_in, command_in, header_status, type_at, length_at, next_at, value_at, tlv_checks, tlv_at}
use Rattle.message_reader.specs.Reading.{has_needed, is_complete, last_of, go_on, tlvs_from, read_message}
use Rattle.message_reader.specs.Theorems.{Headed, RightTlv, Reached, Fault, Refusal, Acceptance, RefusedExactly, ZeroExactly, AcceptedExactly}
use Rattle.message_reader.specs.Theorems as given
use Rattle.wire.proofs.Laws.Bool.{by_test, not_both}
use Rattle.wire.proofs.Laws.Checks.{by_check, by_last_check}
use Rattle.wire.proofs.Laws.Number.{number_small}
use Rattle.wire.proofs.Laws.Status.{number_positive, same_status}
use Rattle.message_rules.proofs.Laws.Rules.{same_role_true, same_role_false, true_same_role, false_same_role, needed_own, type_small}
use Rattle.wire.proofs.Laws.Below.{below_all, all_below_lem, one_below, one_fails}

-- ---- one TLV

-- what an answer to a TLV says
abbrev pub OfTlv : List ℕ → ℕ → Message → Result Tlv Reason → Type 0
OfTlv s at m (Ok t) = RightTlv s at m × (t.kind ≡ type_at s at) × (t.len ≡ length_at s at)
OfTlv s at m (Err r) = Fault s at m r

-- the TLV of that type and length
abbrev pub tlv_of : ℕ → ℕ → Tlv
tlv_of t n = record { kind = t; len = n }

-- what the first refusal of its checks says
abbrev AtTlv : List ℕ → ℕ → Message → Status → Type 0
AtTlv s at m st = OfTlv s at m (passed st (tlv_of (type_at s at) (length_at s at)))

at_tlv : (s : List ℕ) (at : ℕ) (m : Message) → AtTlv s at m (first_of (tlv_checks s at m))
at_tlv s at m =
    let t = type_at s at in
    let P = AtTlv s at m in
    by_check P refusal.TlvTruncated _ _ (λ e. given.truncated (inl (ltb-true (length s) (at + 3) e)))
    (λ a.
    by_check P refusal.TlvTruncated _ _ (λ e. given.truncated (inr (ltb-true (length s) (next_at s at) e)))
    (λ b.
    let whole = ltb-false (length s) (next_at s at) b in
    by_check P refusal.TlvUnexpected _ _ (λ e. given.unexpected whole (same_role_true (role_of m.command t) foreign e))
    (λ d.
    let own = same_role_false (role_of m.command t) foreign d in
    by_check P refusal.TlvLength _ _ (λ e. given.length_wrong whole own (not-true (length_ok t (length_at s at)) e))
    (λ l.
    let fits = not-false (length_ok t (length_at s at)) l in
    by_last_check P refusal.TlvRepeated _ (λ e. given.repeated whole own fits e)
    (λ f. (record { whole = whole; expected = own; fitting = fits; first = f }, refl, refl))))))

pub of_tlv : (s : List ℕ) (at : ℕ) (m : Message) → OfTlv s at m (tlv_at s at m)
unfolding tlv_at
of_tlv s at m = at_tlv s at m

pub tlv_taken : (s : List ℕ) (at : ℕ) (m : Message) → RightTlv s at m → tlv_at s at m ≡ Ok (tlv_of (type_at s at) (length_at s at))
unfolding first_of tlv_at
tlv_taken s at m k =
    simp (
      le-ltb (length s) (at + 3) (omega (arith, k.whole)),
      le-ltb (length s) (next_at s at) k.whole,
      false_same_role (role_of m.command (type_at s at)) foreign k.expected,
      k.fitting,
      k.first,
    )

pub tlv_refused : (s : List ℕ) (at : ℕ) (m : Message) (r : Reason) → Fault s at m r → tlv_at s at m ≡ Err r
unfolding first_of tlv_at
tlv_refused s at m e (given.truncated (inl h)) = simp (lt-ltb (length s) (at + 3) h)
tlv_refused s at m e (given.truncated (inr h)) =
    by_test (λ (x : Status). passed x (tlv_of (type_at s at) (length_at s at)) ≡ Err refusal.TlvTruncated)
    (ltb (length s) (at + 3)) _ _ (λ e. refl) (λ e. simp (lt-ltb (length s) (next_at s at) h))
tlv_refused s at m e (given.unexpected w r) =
    simp (le-ltb (length s) (at + 3) (omega (arith, w)), le-ltb (length s) (next_at s at) w, r)
tlv_refused s at m e (given.length_wrong w r l) =
    simp (
      le-ltb (length s) (at + 3) (omega (arith, w)),
      le-ltb (length s) (next_at s at) w,
      false_same_role (role_of m.command (type_at s at)) foreign r,
      l,
    )
tlv_refused s at m e (given.repeated w r l f) =
    simp (
      le-ltb (length s) (at + 3) (omega (arith, w)),
      le-ltb (length s) (next_at s at) w,
      false_same_role (role_of m.command (type_at s at)) foreign r,
      l,
      f,
    )

-- ---- the TLVs from a place on: with as many steps as bytes are left, the number of steps does not matter

-- the value of n bytes of the TLV at `at`
abbrev pub value : ℕ → ℕ → Field
value at n = record { present = true; at = at + 3; len = n }

pub tlvs_known
    : (k : ℕ) (s : List ℕ) (at : ℕ) (m : Message) (t n : ℕ) → at < length s → length s ≤ at + k → tlv_at s at m ≡ Ok (tlv_of t n)
    → (j : ℕ) × (at + 3 + n ≤ length s) × (length s ≤ at + 3 + n + j) × (tlvs_from j s (at + 3 + n) (with_field m t (value at n)) ≡ tlvs_from k s at m)
unfolding tlvs_from
tlvs_known zero s at m t n h f e = absurd (let no : ⊥ = omega arith in no)
tlvs_known (suc k) s at m t n h f e =
    let p = subst (OfTlv s at m) e (of_tlv s at m) in
    let w = p.0.whole in
    let q = p.2 in
    (k, omega arith, omega arith, simp (lt-ltb at (length s) h, e))

pub tlvs_refused
    : (k : ℕ) (s : List ℕ) (at : ℕ) (m : Message) (r : Reason) → at < length s → length s ≤ at + k → tlv_at s at m ≡ Err r
    → Err (refused_at r at) ≡ tlvs_from k s at m
unfolding tlvs_from
tlvs_refused zero s at m r h f e = absurd (let no : ⊥ = omega arith in no)
tlvs_refused (suc k) s at m r h f e = simp (lt-ltb at (length s) h, e)

pub tlvs_end : (k : ℕ) (s : List ℕ) (at : ℕ) (m : Message) → length s ≤ at → last_of (length s) m ≡ tlvs_from k s at m
unfolding tlvs_from
tlvs_end zero s at m h = refl
tlvs_end (suc k) s at m h = simp (le-ltb at (length s) h)

-- ---- the whole message

-- what an answer says
abbrev OfAnswer : List ℕ → Answer → Type 0
OfAnswer s (Ok m) = Acceptance s m
OfAnswer s (Err r) = Refusal s r.refusal r.place

role_needed : (c t : ℕ) → role_of c t ≡ needed → t < 8
role_needed c t e = type_small c t (needed_own (role_of c t) e)

has_none : (m : Message) (t : ℕ) → has_needed m t ≡ false → (role_of m.command t ≡ needed) × ((field_of m t).present ≡ false)
unfolding has_needed
has_none m t =
    by_test (λ b. b ≡ false → (role_of m.command t ≡ needed) × ((field_of m t).present ≡ false)) (same_role (role_of m.command t) needed) _ _
    (λ e f. (same_role_true (role_of m.command t) needed e, f))
    (λ e f. not_both true refl f)

lacks : (m : Message) (t : ℕ) → role_of m.command t ≡ needed → (field_of m t).present ≡ false → has_needed m t ≡ false
unfolding has_needed
lacks m t n g = simp (n, g)

has_needed_lem : (m : Message) (t : ℕ) → has_needed m t ≡ true → role_of m.command t ≡ needed → (field_of m t).present ≡ true
unfolding has_needed
has_needed_lem m t h e = simp (true_same_role (role_of m.command t) needed e) at h

needed_has : (m : Message) (t : ℕ) → (role_of m.command t ≡ needed → (field_of m t).present ≡ true) → has_needed m t ≡ true
unfolding has_needed
needed_has m t f =
    by_test (λ b. b ≡ true) (same_role (role_of m.command t) needed) _ _ (λ e. f (same_role_true (role_of m.command t) needed e)) (λ e. refl)

of_last : (s : List ℕ) (m : Message) → Headed s → Reached s (length s) m → OfAnswer s (last_of (length s) m)
unfolding last_of is_complete
of_last s m h r =
    by_test (OfAnswer s) (is_complete m) _ _
    (λ e. record { headed = h; reached = r; complete = λ t n. has_needed_lem m t (below_all (has_needed m) 8 e t (role_needed m.command t n)) n })
    (λ e. let f = one_fails (has_needed m) 8 e in let g = has_none m f.0 f.2 in given.missing f.0 h r g.0 g.1)

after_tlv
    : (s : List ℕ) (at : ℕ) (m : Message) (k : ℕ) → Headed s → Reached s at m → at < length s → length s ≤ at + suc k
    → ((n : ℕ) (m' : Message) → Reached s n m' → n ≤ length s → length s ≤ n + k → OfAnswer s (tlvs_from k s n m'))
    → (x : Result Tlv Reason) → OfTlv s at m x → OfAnswer s (go_on (tlvs_from k s) at m x)
after_tlv s at m k h r a f go (Ok t) p =
    rw (p.1, p.2) (go (next_at s at) (with_field m (type_at s at) (value_at s at)) (given.next r p.0) p.0.whole (omega arith))
after_tlv s at m k h r a f go (Err e) p = given.tlv h r a p

of_tlvs
    : (s : List ℕ) → Headed s → (k : ℕ) (at : ℕ) (m : Message) → Reached s at m → at ≤ length s → length s ≤ at + k
    → OfAnswer s (tlvs_from k s at m)
unfolding tlvs_from
of_tlvs s h zero at m r a f = let e : at ≡ length s = omega arith in of_last s m h (subst (λ (i : ℕ). Reached s i m) e r)
of_tlvs s h (suc k) at m r a f =
    by_test (OfAnswer s) (ltb at (length s)) _ _
    (λ e. after_tlv s at m k h r (ltb-true at (length s) e) f (of_tlvs s h k) (tlv_at s at m) (of_tlv s at m))
    (λ e. let b = ltb-false at (length s) e in let q : at ≡ length s = omega arith in of_last s m h (subst (λ (i : ℕ). Reached s i m) q r))

-- a fault of a TLV has a number from 5 on
pub fault_number : (s : List ℕ) (at : ℕ) (m : Message) (r : Reason) → Fault s at m r → 5 ≤ refusal_number r
fault_number s at m e (given.truncated h) = omega arith
fault_number s at m e (given.unexpected w r) = omega arith
fault_number s at m e (given.length_wrong w r l) = omega arith
fault_number s at m e (given.repeated w r l f) = omega arith

-- what the header's status says
abbrev OfHeader : List ℕ → Status → Type 0
OfHeader s (Ok u) = Headed s
OfHeader s (Err r) = Refusal s r 0

of_header : (s : List ℕ) → OfHeader s (header_status s)
unfolding header_status
of_header s =
    let P = OfHeader s in
    by_check P refusal.Truncated _ _ (λ e. given.before_header (ltb-true (length s) 4 e))
    (λ a.
    let four = ltb-false (length s) 4 a in
    by_check P refusal.WrongSize _ _ (λ e. given.below_header four (ltb-true (size_in s) 4 e))
    (λ b.
    let size = ltb-false (size_in s) 4 b in
    by_check P refusal.Truncated _ _ (λ e. given.before_size four size (ltb-true (length s) (size_in s) e))
    (λ d.
    by_check P refusal.WrongSize _ _ (λ e. given.left_over size (ltb-true (size_in s) (length s) e))
    (λ l.
    let all : size_in s ≡ length s = omega (arith, ltb-false (length s) (size_in s) d, ltb-false (size_in s) (length s) l) in
    by_check P refusal.WrongHeader _ _ (λ e. given.version four all (eqb-false (version_in s) 1 (not-true (eqb (version_in s) 1) e)))
    (λ v.
    let one = eqb-true (version_in s) 1 (not-false (eqb (version_in s) 1) v) in
    by_last_check P refusal.UnknownKind _ (λ e. given.command four all one (not-true (known_command (command_in s)) e))
    (λ k. record { four = four; size = all; version = one; command = not-false (known_command (command_in s)) k }))))))

pub header_right : (s : List ℕ) (u : Unit {0}) → header_status s ≡ Ok u → Headed s
header_right s u e = subst (OfHeader s) e (of_header s)

pub header_refused : (s : List ℕ) (r : Reason) → header_status s ≡ Err r → Err (refused_at r 0) ≡ read_message s
unfolding read_message
header_refused s r e = rw e

-- a right header leaves the TLVs to be read
pub headed_read : (s : List ℕ) → Headed s → read_message s ≡ tlvs_from (length s) s 4 (empty_of (command_in s))
unfolding read_message first_of header_status
headed_read s h =
    let e = h.size in
    let f = h.four in
    simp (le-ltb (length s) 4 f, e, le-ltb (length s) (length s) (omega arith), h.version, h.command)

-- Size is a number of two bytes
pub headed_short : (s : List ℕ) → ((k : ℕ) → get_or s k 0 < 256) → Headed s → length s ≤ 65535
headed_short s small h =
    let e = h.size in
    let n = number_small true 2 0 s small in
    omega arith

of_status : (s : List ℕ) (st : Status) → header_status s ≡ st → OfHeader s st → OfAnswer s (read_message s)
of_status s (Ok u) e h = rw (headed_read s h) (of_tlvs s h (length s) 4 (empty_of (command_in s)) given.start h.four (omega arith))
of_status s (Err r) e f = subst (OfAnswer s) (header_refused s r e) f

of_read : (s : List ℕ) → OfAnswer s (read_message s)
of_read s = of_status s (header_status s) refl (of_header s)

-- what was reached is still to be answered
reached_rest
    : (s : List ℕ) (at : ℕ) (m : Message) → 4 ≤ length s → Reached s at m
    → (k : ℕ) × (at ≤ length s) × (length s ≤ at + k) × (tlvs_from k s at m ≡ tlvs_from (length s) s 4 (empty_of (command_in s)))
reached_rest s at m f given.start = (length s, f, omega arith, refl)
reached_rest s at m f (given.next r t) =
    let b = reached_rest s _ _ f r in
    let q = tlvs_known b.0 s _ _ _ _ (let w = t.whole in omega arith) b.2 (tlv_taken s _ _ t) in
    (q.0, q.1, q.2, q.3 ∙ b.3)

-- what holds where the answer is a refusal, and that it is the answer where it holds
pub refusal_of : (s : List ℕ) (r : Reason) (place : ℕ) → read_message s ≡ Err (refused_at r place) → Refusal s r place
refusal_of s r place e = subst (OfAnswer s) e (of_read s)

pub refused : (s : List ℕ) (r : Reason) (place : ℕ) → Refusal s r place → read_message s ≡ Err (refused_at r place)
unfolding read_message first_of header_status last_of is_complete
refused s x place (given.before_header h) = simp (lt-ltb (length s) 4 h)
refused s x place (given.before_size a b h) = simp (le-ltb (length s) 4 a, le-ltb (size_in s) 4 b, lt-ltb (length s) (size_in s) h)
refused s x place (given.below_header a h) = simp (le-ltb (length s) 4 a, lt-ltb (size_in s) 4 h)
refused s x place (given.left_over b h) =
    simp (le-ltb (length s) 4 (omega arith), le-ltb (size_in s) 4 b, le-ltb (length s) (size_in s) (omega arith), lt-ltb (size_in s) (length s) h)
refused s x place (given.version a e h) = simp (le-ltb (length s) 4 a, e, le-ltb (length s) (length s) (omega arith), ne_eqb (version_in s) 1 h)
refused s x place (given.command a e v h) = simp (le-ltb (length s) 4 a, e, le-ltb (length s) (length s) (omega arith), v, h)
refused s x place (given.tlv {m = m} h r a f) =
    let b = reached_rest s place m h.four r in
    headed_read s h ∙ sym b.3 ∙ sym (tlvs_refused b.0 s place m x a b.2 (tlv_refused s place m x f))
refused s x place (given.missing {m = m} t h r n g) =
    let b = reached_rest s (length s) m h.four r in
    headed_read s h ∙ sym b.3 ∙ sym (tlvs_end b.0 s (length s) m (omega arith))
    ∙ simp (one_below (has_needed m) 8 t (role_needed m.command t n) (lacks m t n g))

accepts : (s : List ℕ) (m : Message) → Acceptance s m → read_message s ≡ Ok m
unfolding last_of is_complete
accepts s m k =
    let b = reached_rest s (length s) m k.headed.four k.reached in
    headed_read s k.headed ∙ sym b.3 ∙ sym (tlvs_end b.0 s (length s) m (omega arith))
    ∙ simp (all_below_lem (has_needed m) 8 (λ t h. needed_has m t (k.complete t)))

-- the number and the place of a refusal tell the answer
same_refusal : (r other : Reason) → refusal_number r ≡ refusal_number other → r ≡ other
same_refusal r other e = IfErr-at_err (λ (x : Reason). r ≡ x) (same_status (Err r) (Err other) e) refl

numbered_back : (a : Answer) (r : Reason) (place : ℕ) → numbered a ≡ refused_as (refused_at r place) → a ≡ Err (refused_at r place)
numbered_back (Ok m) r place e = let n = ap (λ (x : Numbered). x.number) e in let p = number_positive r in absurd (let no : ⊥ = omega arith in no)
numbered_back (Err x) r place e =
    let number = same_refusal x.refusal r (ap (λ (n : Numbered). n.number) e) in
    let at = ap (λ (n : Numbered). n.place) e in
    rw (← number, ← at)

pub refused_exactly : RefusedExactly
unfolding RefusedExactly
refused_exactly s r place = (
  λ f. ap numbered (refused s r place f),
  λ e. refusal_of s r place (numbered_back (read_message s) r place e),
)

zero_accepted : (s : List ℕ) (a : Answer) → OfAnswer s a → (numbered a).number ≡ 0 → (m : Message) × Acceptance s m
zero_accepted s (Ok m) k z = (m, k)
zero_accepted s (Err r) f z = let p = number_positive r.refusal in absurd (let no : ⊥ = omega arith in no)

pub zero_exactly : ZeroExactly
unfolding ZeroExactly
zero_exactly s = (zero_accepted s (read_message s) (of_read s), λ m k. ap numbered (accepts s m k))

pub accepted_exactly : AcceptedExactly
unfolding AcceptedExactly
accepted_exactly s m = (λ e. subst (OfAnswer s) e (of_read s), accepts s m)

-- what `walk::locate` rests on
pub ruleset located = (header_right, header_refused, headed_short, headed_read)
