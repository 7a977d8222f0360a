-- A record can be written exactly where none of the reasons against it is given: each test of the definition is one of them. Assumes nothing.
use Prim.Native.Nat.{ℕ, ◌+◌, ◌<◌}
use mathlib.Core.Path.{◌≡◌, refl, sym, ap, ◌∙◌}
use mathlib.Core.Bool.{Bool, true, false, not, ◌&&◌}
use mathlib.Core.List.{List, ◌++◌}
use mathlib.Core.Logic.{◌⊎◌, inl, inr, ⊎_elim}
use native.Mathlib.Omega.{arith}
use borrow.Author.Tests.{leb-false, not-false}
use lib.Dec.{leb}
use lib.ListN.{length, drop, length-append, length-drop}
use lib.Seq.{drop_at}
use Rattle.message_rules.specs.declared.record.Message.{Message}
use Rattle.std.specs.Prelude.{Result, Ok, Err}
use Rattle.wire.specs.Numbered.{numbered}
use Rattle.wire.specs.declared.status.Refused.{Refused}
use Rattle.message_rules.specs.Rules.{role_of, foreign, needed, same_role, length_ok, known_command}
use Rattle.wire.specs.Below.{all_below}
use Rattle.message_rules.specs.Record.{field_of, size_to}
use Rattle.message_writer.specs.Writing.{field_ok, writable, message_of, write_answer, output_after, output}
use Rattle.message_writer.specs.Theorems.{Unwritable, WrittenExactly, RestKept}
use Rattle.message_writer.specs.Theorems as given
use Rattle.wire.proofs.Laws.Bool.{either, by_test, not_both}
use Rattle.message_rules.proofs.Laws.Rules.{same_role_true, needed_own, type_small}
use Rattle.wire.proofs.Laws.Below.{one_fails}
use Rattle.message_rules.proofs.Laws.Record.{field_type}
use Rattle.message_writer.proofs.Laws.Writing.{ok_expected, ok_within, ok_fitting, ok_absent, known, ok_below, size_small}
use Rattle.message_writer.proofs.Laws.Writing.{message_length, not_writable, no_room, wrote}
use Rattle.message_writer.proofs.Laws.ReadsBack.{answer_wrote}

-- of two tests that don't both hold, the first fails, or it holds and the second fails
fails : (a b : Bool) → a && b ≡ false → (a ≡ false) ⊎ (b ≡ false)
fails true b e = inr e
fails false b e = inl refl

module _ (n : ℕ) (m : Message) where
  field_reason : (t : ℕ) → field_ok n m t ≡ false → Unwritable n m
  unfolding field_ok
  field_reason t =
      let f = field_of m t in
      let r = role_of m.command t in
      by_test (λ b. b ≡ false → Unwritable n m) f.present _ _
      (λ p e.
      ⊎_elim (λ a. given.foreign_tlv t p (same_role_true r foreign (not-false (same_role r foreign) a)))
      (λ b.
      ⊎_elim (λ a. given.outside t p (leb-false (f.at + f.len) n a)) (λ a. given.value_length t p a)
      (fails (leb (f.at + f.len) n) (length_ok t f.len) b))
      (fails (not (same_role r foreign)) (leb (f.at + f.len) n && length_ok t f.len) e))
      (λ p e. given.absent_tlv t p (same_role_true r needed (not-false (same_role r needed) e)))

  reason : writable n m ≡ false → Unwritable n m
  unfolding writable
  reason e =
      ⊎_elim (λ a. given.no_command a)
      (λ b.
      ⊎_elim (λ a. let f = one_fails (field_ok n m) 8 a in field_reason f.0 f.2) (λ a. given.too_long (leb-false (size_to m 8) 65535 a))
      (fails (all_below 8 (field_ok n m)) (leb (size_to m 8) 65535) b))
      (fails (known_command m.command) (all_below 8 (field_ok n m) && leb (size_to m 8) 65535) e)

module _ (s : List ℕ) (m : Message) where
  no_reason : writable (length s) m ≡ true → Unwritable (length s) m → ⊥
  no_reason w (given.outside t p h) =
      let l = ok_within (length s) m t (ok_below s m w t (field_type m t p).0) p in omega arith
  no_reason w (given.value_length t p e) =
      not_both (length_ok t (field_of m t).len) (ok_fitting (length s) m t (ok_below s m w t (field_type m t p).0) p) e
  no_reason w (given.no_command e) = not_both (known_command m.command) (known s m w) e
  no_reason w (given.foreign_tlv t p e) = ok_expected (length s) m t (ok_below s m w t (field_type m t p).0) p e
  no_reason w (given.absent_tlv t p e) =
      let h : t < 8 = type_small m.command t (needed_own (role_of m.command t) e) in
      ok_absent (length s) m t (ok_below s m w t h) p e
  no_reason w (given.too_long h) = let l = size_small s m w in omega arith

  unwritable : Unwritable (length s) m → writable (length s) m ≡ false
  unwritable u = ⊎_elim (λ w. absurd (no_reason w u)) (λ e. e) (either (writable (length s) m))

  writable_else : (Unwritable (length s) m → ⊥) → writable (length s) m ≡ true
  writable_else f = ⊎_elim (λ w. w) (λ e. absurd (f (reason (length s) m e))) (either (writable (length s) m))

pub written_exactly : WrittenExactly
unfolding WrittenExactly
written_exactly s m out =
    record {
      unwritable = λ u. ap numbered (sym (not_writable s m out (unwritable s m u)).0);
      no_room = λ f h. ap numbered (sym (no_room s m out (writable_else s m f) h).0);
      wrote = λ f h. sym (wrote s m out (writable_else s m f) h).0;
      one_of = ⊎_elim (λ w. inr (no_reason s m w)) (λ e. inl (reason (length s) m e)) (either (writable (length s) m));
    }

refused_kept : (a : Result ℕ Refused) (message out : List ℕ) → ((numbered a).number ≡ 0 → ⊥) → output_after a message out ≡ out
refused_kept (Ok n) message out f = absurd (f refl)
refused_kept (Err r) message out f = refl

pub rest_kept : RestKept
unfolding RestKept output
rest_kept s m out = (
  refused_kept (write_answer s m out) (message_of s m) out,
  λ n e.
      let a = answer_wrote s m out n e in
      let l = message_length s m a.0 in
      let o : output s m out ≡ message_of s m ++ drop n out = ap (λ (x : Result ℕ Refused). output_after x (message_of s m) out) e in
      (ap length o ∙ (simp (length-append, length-drop) (omega (arith, l, a.1, a.2))), ap (drop n) o ∙ drop_at (message_of s m) (drop n out) n (l ∙ a.1)),
)
