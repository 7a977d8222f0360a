-- Each TLV that is taken lies right after those before it; so what is reached is well-formed up to there. Assumes nothing.
use Prim.Native.Nat.{ℕ, ◌+◌, ◌-◌, ◌<◌}
use mathlib.Core.Path.{◌≡◌, refl, sym, ap, ◌∙◌, subst}
use mathlib.Core.Bool.{true}
use mathlib.Core.List.{List}
use mathlib.Core.Logic.{◌⊎◌, inl, inr, ⊎_elim}
use native.Mathlib.Omega.{arith}
use Rattle.message_rules.specs.declared.record.Field.{Field}
use Rattle.message_rules.specs.declared.record.Message.{Message}
use Rattle.message_rules.specs.Rules.{known_command}
use Rattle.message_rules.specs.Record.{absent, field_of, with_field, empty_of, size_to}
use Rattle.message_reader.specs.Reading.{command_in, type_at, next_at, value_at}
use Rattle.message_reader.specs.Theorems.{RightTlv, Reached, Placed, Before, AcceptedExactly, AcceptedWellFormed}
use Rattle.message_reader.specs.Theorems as given
use Rattle.wire.proofs.Laws.Bool.{not_both}
use Rattle.message_rules.proofs.Laws.Rules.{type_small, type_not_1}
use Rattle.message_rules.proofs.Laws.Record.{field_with, field_empty, command_with, command_empty}
use Rattle.message_reader.proofs.Laws.Reading.{accepted_exactly}
use Rattle.message_rules.proofs.Laws.Size.{size_least, size_empty, size_with}

-- m is the record of the TLVs up to `at`, which fill the bytes up to there
pub record Sound (s : List ℕ) (at : ℕ) (m : Message) : Type 0 where
  pub command : m.command ≡ command_in s
  pub size : size_to m 8 ≡ at
  pub placed : (u : ℕ) → (field_of m u).present ≡ true → Placed s m.command u (field_of m u) at
  pub apart
      : (u v : ℕ) → (u ≡ v → ⊥) → (field_of m u).present ≡ true → (field_of m v).present ≡ true
      → Before (field_of m u) (field_of m v) ⊎ Before (field_of m v) (field_of m u)

-- the fields of a record with the value of one right TLV more
pub field_next
    : (s : List ℕ) (at : ℕ) (m : Message) → RightTlv s at m → (u : ℕ)
    → ((type_at s at ≡ u) × (field_of (with_field m (type_at s at) (value_at s at)) u ≡ value_at s at))
    ⊎ ((type_at s at ≡ u → ⊥) × (field_of (with_field m (type_at s at) (value_at s at)) u ≡ field_of m u))
field_next s at m k =
    field_with m (type_at s at) (value_at s at) (type_small m.command (type_at s at) k.expected) (type_not_1 m.command (type_at s at) k.expected)

-- what holds of an absent value, and of that of each right TLV, holds of each field
pub each_field
    : (s : List ℕ) (P : Field → Type 0) → P absent → ((at : ℕ) (m : Message) → RightTlv s at m → P (value_at s at)) → {at : ℕ} {m : Message}
    → Reached s at m → (u : ℕ) → P (field_of m u)
each_field s P z f given.start u = rw (field_empty (command_in s) u) z
each_field s P z f (given.next {at} {m} r k) u =
    ⊎_elim (λ e. rw e.1 (f at m k)) (λ e. rw e.1 (each_field s P z f r u)) (field_next s at m k u)

none : {A : Type 0} (c u : ℕ) → (field_of (empty_of c) u).present ≡ true → A
none c u p = not_both (field_of (empty_of c) u).present p (ap (λ (f : Field). f.present) (field_empty c u))

begin : (s : List ℕ) → Sound s 4 (empty_of (command_in s))
begin s =
    record {
      command = command_empty (command_in s);
      size = size_empty (command_in s) 8;
      placed = λ u p. none (command_in s) u p;
      apart = λ u v n p q. none (command_in s) u p;
    }

module _ (s : List ℕ) (at : ℕ) (m : Message) (i : Sound s at m) (k : RightTlv s at m) where
  small : type_at s at < 8
  small = type_small m.command (type_at s at) k.expected

  not_1 : type_at s at ≡ 1 → ⊥
  not_1 = type_not_1 m.command (type_at s at) k.expected

  abbrev m' : Message
  m' = with_field m (type_at s at) (value_at s at)

  new : Placed s m.command (type_at s at) (value_at s at) (next_at s at)
  new =
      let e : at + 3 - 3 ≡ at = omega arith in
      record {
        past_header = omega (arith, i.size, size_least m 8);
        within = omega arith;
        type = rw e;
        length_declared = rw e;
        expected = k.expected;
        fitting = k.fitting;
      }

  old : (u : ℕ) → (field_of m u).present ≡ true → Placed s m.command u (field_of m u) (next_at s at)
  old u p =
      let q = i.placed u p in
      record {
        past_header = q.past_header;
        within = omega (arith, q.within);
        type = q.type;
        length_declared = q.length_declared;
        expected = q.expected;
        fitting = q.fitting;
      }

  each : (u : ℕ) → (field_of m' u).present ≡ true → Placed s m.command u (field_of m' u) (next_at s at)
  each u p =
      ⊎_elim
      (λ e. rw e.1 (subst (λ (j : ℕ). Placed s m.command j (value_at s at) (next_at s at)) e.0 new))
      (λ e. rw e.1 (old u (rw e.1 at p)))
      (field_next s at m k u)

  -- a field of m ends where the new TLV begins
  left : (u : ℕ) → (field_of m u).present ≡ true → Before (field_of m u) (value_at s at)
  left u p = let q = (i.placed u p).within in omega arith

  two
      : (u v : ℕ) → (u ≡ v → ⊥) → (field_of m' u).present ≡ true → (field_of m' v).present ≡ true
      → Before (field_of m' u) (field_of m' v) ⊎ Before (field_of m' v) (field_of m' u)
  two u v n p q =
      ⊎_elim
      (λ d.
      ⊎_elim
      (λ e. absurd (n (sym d.0 ∙ e.0)))
      (λ e. rw (d.1, e.1) (inr (left v (rw e.1 at q))))
      (field_next s at m k v))
      (λ d.
      ⊎_elim
      (λ e. rw (d.1, e.1) (inl (left u (rw d.1 at p))))
      (λ e. rw (d.1, e.1) (i.apart u v n (rw d.1 at p) (rw e.1 at q)))
      (field_next s at m k v))
      (field_next s at m k u)

  onward : Sound s (next_at s at) m'
  onward =
      record {
        command = command_with m (type_at s at) (value_at s at) ∙ i.command;
        size = size_with m (type_at s at) (value_at s at) small not_1 refl k.first 8 small (omega arith) ∙ (let z = i.size in omega arith);
        placed = λ u p. subst (λ (c : ℕ). Placed s c u (field_of m' u) (next_at s at)) (sym (command_with m (type_at s at) (value_at s at))) (each u p);
        apart = two;
      }

pub sound : (s : List ℕ) {at : ℕ} {m : Message} → Reached s at m → Sound s at m
sound s given.start = begin s
sound s (given.next r k) = onward s _ _ (sound s r) k

pub accepted_well_formed : AcceptedWellFormed
unfolding AcceptedWellFormed AcceptedExactly
accepted_well_formed s m e =
    let a = (accepted_exactly s m).0 e in
    let i = sound s a.reached in
    record {
      size = a.headed.size;
      filled = i.size;
      version = a.headed.version;
      command = i.command;
      known = ap known_command i.command ∙ a.headed.command;
      placed = i.placed;
      apart = i.apart;
      complete = a.complete;
    }
