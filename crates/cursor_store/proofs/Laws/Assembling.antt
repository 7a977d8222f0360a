-- The picture's part of the call for starts and continuations in its steps: 17, the packet is read, the fragment is judged and stored. Assumes
-- nothing.
use Prim.Native.Nat.{ℕ, ◌+◌, ◌≤◌}
use mathlib.Core.Path.{◌≡◌, sym, ap, ◌∙◌, refl}
use mathlib.Core.Bool.{Bool, true, false, not, cond, false≢true}
use mathlib.Core.List.{List}
use native.Mathlib.Omega.{arith}
use lib.ListN.{length}
use Rattle.std.specs.Prelude.{Ok, Err, IfOk}
use Rattle.std.proofs.lemmas.Result.{IfOk-at_ok}
use Rattle.wire.specs.Status.{Status, accepted, passed}
use Rattle.wire.specs.declared.status.Refusal.{Refusal}
use Rattle.wire.specs.declared.status.Refusal.TheVariants as refusal
use Rattle.wire.specs.Checks.{first_of}
use Rattle.wire.proofs.Laws.Checks.{first_append}
use Rattle.cursor_fragment.specs.Fragment.{is_start, image_data, starts, fragment_checks, fragment_of, fragment_status, data_of, DataInside}
use Rattle.cursor_fragment.specs.declared.Fragment.{Fragment}
use Rattle.cursor_fragment.specs.Parsing.{parsed}
use Rattle.cursor_fragment.proofs.Laws.Fragment.{starts_is, data_inside}
use Rattle.cursor_picture.specs.declared.Picture.{Picture}
use Rattle.cursor_picture.specs.Picture.{held}
use Rattle.cursor_store.specs.Judging.{judging, with_sequence, SequenceIgnored}
use Rattle.cursor_store.specs.Assembling.{store_checks, store_status, opened_for, cleared_for, image_after, marks_after, with_start, picture_after, outcome, assembled_as, fragment_assembled, assembled, OldFragmentStored}
use Rattle.cursor_store.proofs.Laws.Judging.{opened_same, sequence_ignored}

pub store_status_lem
    : (q : Picture) (packet image marks : List ℕ)
    → store_status q packet image marks
    ≡ cond (not (held q (length image) (length marks))) (Err refusal.ImageNotHeld)
    (cond (accepted (fragment_status packet)) (first_of (judging q (fragment_of packet) (data_of packet) image marks)) (fragment_status packet))
unfolding store_status store_checks first_of
store_status_lem q packet image marks = rw (first_append (fragment_checks (is_start packet) packet) (judging q (fragment_of packet) (data_of packet) image marks))

-- what an accepted call passed
passed_all : (h : Bool) (t j : Status) → accepted (cond (not h) (Err refusal.ImageNotHeld) (cond (accepted t) j t)) ≡ true → (h ≡ true) × (accepted t ≡ true) × (accepted j ≡ true)
passed_all true (Ok u) j e = (refl, refl, e)
passed_all true (Err r) j e = absurd (false≢true e)
passed_all false t j e = absurd (false≢true e)

pub store_passed
    : (q : Picture) (packet image marks : List ℕ) → accepted (store_status q packet image marks) ≡ true
    → (held q (length image) (length marks) ≡ true) × (accepted (fragment_status packet) ≡ true)
    × (accepted (first_of (judging q (fragment_of packet) (data_of packet) image marks)) ≡ true)
store_passed q packet image marks h =
    passed_all (held q (length image) (length marks)) (fragment_status packet) (first_of (judging q (fragment_of packet) (data_of packet) image marks))
    (ap accepted (sym (store_status_lem q packet image marks)) ∙ h)

-- a value that was passed on is the one given, and the checks accept
passed_says : {A : Type 0} (s : Status) (x : A) → IfOk (passed s x) (λ y. (accepted s ≡ true) × (y ≡ x))
passed_says (Ok u) x = (refl, refl)
passed_says (Err r) x = tt

-- an accepted packet's fragment, as its parsing gives it
module _ (packet : List ℕ) (f : Fragment) (e : Ok f ≡ parsed packet) where
  parsed_is : (accepted (fragment_status packet) ≡ true) × (f ≡ fragment_of packet)
  unfolding parsed
  parsed_is = IfOk-at_ok (λ (y : Fragment). (accepted (fragment_status packet) ≡ true) × (y ≡ fragment_of packet)) (sym e) (passed_says (fragment_status packet) (fragment_of packet))

  parsed_data : image_data (starts f) packet ≡ data_of packet
  parsed_data = rw (parsed_is.1, starts_is packet)

  pub parsed_inside : f.offset + length (image_data (starts f) packet) ≤ f.total
  unfolding DataInside
  parsed_inside = rw (parsed_data, parsed_is.1) (data_inside packet parsed_is.0)

-- a refusal that was passed on is the checks'
passed_err : {A : Type 0} (s : Status) (x : A) (r : Refusal) → Err r ≡ passed s x → s ≡ Err r
passed_err (Ok u) x r e = absurd (let z : ◌≡◌ {A = ℕ} 0 1 = cc in let no : ⊥ = omega arith in no)
passed_err (Err q) x r e = cc

refused_says : (packet : List ℕ) (r : Refusal) → Err r ≡ parsed packet → fragment_status packet ≡ Err r
unfolding parsed
refused_says packet r e = passed_err (fragment_status packet) (fragment_of packet) r e

module _ (q : Picture) (packet image marks : List ℕ) where
  pub not_held
      : held q (length image) (length marks) ≡ false → assembled q packet image marks ≡ outcome (Err refusal.ImageNotHeld) image marks
  unfolding assembled assembled_as
  not_held h =
      let t : store_status q packet image marks ≡ Err refusal.ImageNotHeld = store_status_lem q packet image marks ∙ simp h in
      simp t

  module _ (h : held q (length image) (length marks) ≡ true) where
    -- the checks of the call after 17
    status_is : (s : Status) → fragment_status packet ≡ s
        → store_status q packet image marks ≡ cond (accepted s) (first_of (judging q (fragment_of packet) (data_of packet) image marks)) s
    status_is s e = store_status_lem q packet image marks ∙ simp (h, e)

    pub refused : (r : Refusal) → Err r ≡ parsed packet → assembled q packet image marks ≡ outcome (Err r) image marks
    unfolding assembled assembled_as
    refused r e = simp (status_is (Err r) (refused_says packet r e))

    pub taken : (f : Fragment) → Ok f ≡ parsed packet
        → assembled q packet image marks ≡ fragment_assembled q f (image_data (starts f) packet) image marks
    unfolding assembled fragment_assembled
    taken f e =
        rw (parsed_data packet f e, (parsed_is packet f e).1)
        (ap (λ (s : Status). assembled_as s q (fragment_of packet) (data_of packet) image marks)
        (store_status_lem q packet image marks ∙ simp (h, (parsed_is packet f e).0)))

-- a fragment of the opened id, whatever its sequence number
pub old_fragment_stored : OldFragmentStored
unfolding OldFragmentStored SequenceIgnored fragment_assembled assembled_as opened_for cleared_for image_after marks_after with_start picture_after
old_fragment_stored n q f ds image marks h = rw (sequence_ignored n q f ds image marks h) (go (first_of (judging q f ds image marks)))
  where
    go : (s : Status) → assembled_as s q (with_sequence n f) ds image marks ≡ assembled_as s q f ds image marks
    go (Ok u) = simp (opened_same n q f, h)
    go (Err r) = refl
