-- What the walk has found so far gives the rest of the answer. Assumes nothing.
use Prim.Native.Nat.{ℕ, ◌+◌, ◌≤◌, ◌<◌}
use mathlib.Core.Path.{◌≡◌, sym, ap, ◌∙◌, subst}
use mathlib.Core.List.{List}
use mathlib.Core.Bool.{true, false}
use native.Mathlib.Omega.{arith}
use lib.ListN.{length, set}
use Rattle.std.specs.Prelude.{Ok, Err}
use Rattle.wire.specs.Status.{refused_at}
use Rattle.wire.specs.declared.status.Refusal.{Refusal}
use Rattle.wire.specs.declared.status.Refusal.TheVariants as refusal
use Rattle.message_rules.specs.declared.record.Field.{Field}
use Rattle.message_rules.specs.declared.record.Message.{Message}
use Rattle.message_rules.specs.Record.{empty_of}
use Rattle.message_rules.proofs.Laws.Rules.{type_small, type_not_1}
use Rattle.message_reader.specs.Reading.{Answer, type_at, tlv_at, is_complete, last_of, tlvs_from}
use Rattle.message_reader.specs.Values.{none, message_from}
use Rattle.message_reader.proofs.Laws.Reading.{value, OfTlv, tlv_of, of_tlv, tlvs_known, tlvs_refused, tlvs_end}
use Rattle.message_reader.proofs.Laws.Values.{Eight, eight_none, none_found, eight_set, set_found}

-- the answer on the TLVs of a message of command c
abbrev pub Whole : List ℕ → ℕ → Answer
Whole s c = tlvs_from (length s) s 4 (empty_of c)

-- Up to `at` these values were found; what is still to be read gives the answer.
pub record Walked (s : List ℕ) (c at : ℕ) (values : List Field) : Type 0 where
  pub short : length s ≤ 65535
  pub eight : Eight values
  pub steps : ℕ
  pub enough : length s ≤ at + steps
  pub rest : tlvs_from steps s at (message_from c values) ≡ Whole s c

pub walked_start : (s : List ℕ) (c : ℕ) (values : List Field) → length s ≤ 65535 → values ≡ none → Walked s c 4 values
walked_start s c values h e =
    subst (Walked s c 4) (sym e)
    (record {
      short = h;
      eight = eight_none;
      steps = length s;
      enough = omega arith;
      rest = ap (tlvs_from (length s) s 4) (none_found c);
    })

-- a right TLV lies within the message, and its type is one that there is
pub record Fits (s : List ℕ) (at t n : ℕ) : Type 0 where
  pub small : t < 8
  pub not_1 : t ≡ 1 → ⊥
  pub whole : at + 3 + n ≤ length s

right_fits : (s : List ℕ) (at : ℕ) (m : Message) (t n : ℕ) → OfTlv s at m (Ok (tlv_of t n)) → Fits s at t n
right_fits s at m t n p =
    let u = type_at s at in
    subst (λ (i : ℕ). Fits s at i n) (sym p.1)
    (record {
      small = type_small m.command u p.0.expected;
      not_1 = type_not_1 m.command u p.0.expected;
      whole = (let w = p.0.whole in let l = p.2 in omega arith);
    })

module _ {s : List ℕ} {c at : ℕ} {values : List Field} (g : Walked s c at values) (h : at < length s) where
  module _ (t n : ℕ) (e : tlv_at s at (message_from c values) ≡ Ok (tlv_of t n)) where
    pub walked_fits : Fits s at t n
    walked_fits = right_fits s at (message_from c values) t n (subst (OfTlv s at (message_from c values)) e (of_tlv s at (message_from c values)))

    pub walked_next : Walked s c (at + 3 + n) (set values t (value at n))
    walked_next =
        let f = walked_fits in
        let q = tlvs_known g.steps s at (message_from c values) t n h g.enough e in
        record {
          short = g.short;
          eight = eight_set c values g.eight t (value at n) f.small f.not_1;
          steps = q.0;
          enough = q.2;
          rest =
              ap (tlvs_from q.0 s (at + 3 + n)) (sym (set_found c values g.eight t (value at n) f.small f.not_1))
              ∙ q.3 ∙ g.rest;
        }

  pub walked_refused : (r : Refusal) → tlv_at s at (message_from c values) ≡ Err r → Err (refused_at r at) ≡ Whole s c
  walked_refused r e = tlvs_refused g.steps s at (message_from c values) r h g.enough e ∙ g.rest

-- the end, with nothing missing, or with a TLV missing
module _ {s : List ℕ} {c at : ℕ} {values : List Field} (g : Walked s c at values) (h : length s ≤ at) where
  last : last_of (length s) (message_from c values) ≡ Whole s c
  last = tlvs_end g.steps s at (message_from c values) h ∙ g.rest

  pub walked_complete : is_complete (message_from c values) ≡ true → Ok (message_from c values) ≡ Whole s c
  unfolding last_of
  walked_complete e = simp e at last

  pub walked_missing : is_complete (message_from c values) ≡ false → Err (refused_at refusal.TlvUnexpected (length s)) ≡ Whole s c
  unfolding last_of
  walked_missing e = simp e at last

-- what a turn of `walk::walk` rests on
pub ruleset turn = (walked_start, walked_next, walked_refused)
