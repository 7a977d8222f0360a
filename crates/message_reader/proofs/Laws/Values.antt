-- A record and its values: each determines the other. Assumes nothing.
use Prim.Native.Nat.{ℕ, ◌<◌}
use mathlib.Core.Path.{◌≡◌, refl, sym, ap, ◌∙◌, subst}
use mathlib.Core.List.{List}
use mathlib.Core.Logic.{⊎_elim}
use native.Mathlib.Omega.{arith}
use native.Mathlib.Decide.{dec_lt}
use lib.ListN.{length, get_or, set, length-set, get_or-eq_default}
use lib.Seq.{get_or-set_same, get_or-set_other, ext_get_or}
use Rattle.message_rules.specs.declared.record.Field.{Field}
use Rattle.message_rules.specs.declared.record.Message.{Message}
use Rattle.message_rules.specs.Rules.{role_of, needed}
use Rattle.message_rules.specs.Record.{absent, field_of, with_field, empty_of}
use Rattle.message_rules.proofs.Laws.Rules.{true_same_role, needed_own, each_type, type_small, type_not_1}
use Rattle.message_rules.proofs.Laws.Record.{past, field_with}
use Rattle.message_reader.specs.Reading.{has_needed}
use Rattle.message_reader.specs.Values.{none, message_from, values_of}

-- a type that there is has its value
pub field_found : (c : ℕ) (values : List Field) (t : ℕ) → t < 8 → (t ≡ 1 → ⊥) → field_of (message_from c values) t ≡ get_or values t absent
unfolding field_of message_from
field_found c values =
    each_type (λ (t : ℕ). (t ≡ 1 → ⊥) → field_of (message_from c values) t ≡ get_or values t absent)
    (λ n. refl) (λ n. absurd (n refl)) (λ n. refl) (λ n. refl) (λ n. refl) (λ n. refl) (λ n. refl) (λ n. refl)

-- a record whose fields are those of the values
found_all : (m : Message) (values : List Field) → ((t : ℕ) → field_of m t ≡ get_or values t absent) → m ≡ message_from m.command values
unfolding field_of message_from
found_all m values f = simp (← f 0, ← f 2, ← f 3, ← f 4, ← f 5, ← f 6, ← f 7)

-- eight values, and none of type 1
pub record Eight (values : List Field) : Type 0 where
  pub eight : length values ≡ 8
  pub no_1 : get_or values 1 absent ≡ absent

pub eight_none : Eight none
eight_none = record { eight = refl; no_1 = refl }

-- no values are those of an empty record
pub none_found : (c : ℕ) → message_from c none ≡ empty_of c
unfolding message_from empty_of
none_found c = refl

module _ (c : ℕ) (values : List Field) (g : Eight values) where
  -- each type has its value
  all_found : (t : ℕ) → field_of (message_from c values) t ≡ get_or values t absent
  unfolding field_of message_from
  all_found t = elim (dec_lt t 8) [
    | yes h ↦
        each_type (λ (u : ℕ). field_of (message_from c values) u ≡ get_or values u absent) refl (rw g.no_1) refl refl refl refl refl refl t h
    | no h ↦
        let l = g.eight in
        past (message_from c values) t (omega arith) ∙ rw (get_or-eq_default values absent {n = t} (omega arith))
  ]

  -- the values of the record are these
  pub values_back : values ≡ values_of (message_from c values)
  unfolding message_from values_of
  values_back =
      let l = g.eight in
      ext_get_or absent values (values_of (message_from c values)) l
      (λ t h.
      each_type (λ (u : ℕ). get_or values u absent ≡ get_or (values_of (message_from c values)) u absent)
      refl g.no_1 refl refl refl refl refl refl t (omega arith))

  -- one value more
  module _ (t : ℕ) (f : Field) (h : t < 8) (k : t ≡ 1 → ⊥) where
    pub eight_set : Eight (set values t f)
    eight_set = record {
      eight = simp length-set g.eight;
      no_1 = get_or-set_other values t 1 f absent (λ e. k (sym e)) ∙ g.no_1;
    }

    with-found : (u : ℕ) → field_of (with_field (message_from c values) t f) u ≡ get_or (set values t f) u absent
    with-found u =
        ⊎_elim
        (λ x.
        x.1
        ∙ subst (λ (i : ℕ). f ≡ get_or (set values t f) i absent) x.0 (sym (get_or-set_same values t f absent (let l = g.eight in omega arith))))
        (λ x. x.1 ∙ all_found u ∙ sym (get_or-set_other values t u f absent (λ q. x.0 (sym q))))
        (field_with (message_from c values) t f h k u)

    pub set_found : with_field (message_from c values) t f ≡ message_from c (set values t f)
    unfolding with_field message_from
    set_found = found_all (with_field (message_from c values) t f) (set values t f) with-found

-- whether a type that there is has a value
pub found_present
    : (c : ℕ) (values : List Field) (t : ℕ) → t < 8 → (t ≡ 1 → ⊥) → (field_of (message_from c values) t).present ≡ (get_or values t absent).present
found_present c values t h k = ap (λ (f : Field). f.present) (field_found c values t h k)

-- a type that the command needs is one that there is
pub needed_found : (c : ℕ) (values : List Field) (t : ℕ) → role_of c t ≡ needed → has_needed (message_from c values) t ≡ (get_or values t absent).present
unfolding has_needed message_from
needed_found c values t e =
    let own = needed_own (role_of c t) e in
    simp (true_same_role (role_of c t) needed e) (found_present c values t (type_small c t own) (type_not_1 c t own))

-- what `tlv::tlv_at` rests on
pub ruleset taken = (type_small, type_not_1, found_present)
