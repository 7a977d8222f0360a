-- The call for starts and continuations: packets of the same parts do alike, and 3 is for the first two bytes alone (02 §2). Assumes nothing.
use Prim.Native.Nat.{ℕ}
use Rattle.std.specs.Prelude.{Ok, Err}
use mathlib.Core.Path.{◌≡◌, refl, sym, ap, ◌∙◌}
use mathlib.Core.Bool.{true, not}
use mathlib.Core.List.{List, [], ◌∷◌, ◌++◌}
use mathlib.Core.Logic.Iff
use mathlib.Core.Logic.{◌↔◌}
use borrow.Author.Tests.{not-false}
use lib.ListN.{length}
use Rattle.wire.specs.Status.{Status, number_of}
use Rattle.wire.specs.declared.status.Refusal.TheVariants as refusal
use Rattle.wire.specs.Checks.{Check, refuse}
use Rattle.wire.proofs.Laws.Bool.{by_test}
use Rattle.wire.proofs.Laws.Checks.{lacking, first_gives, other_first}
use Rattle.cursor_packet.specs.Frame.{type_of}
use Rattle.cursor_packet.specs.UnusedFields.{PartsAlike, WrongRtp}
use Rattle.cursor_packet.proofs.Laws.UnusedFields.{three_exactly}
use Rattle.cursor_fragment.specs.declared.Fragment.{Fragment}
use Rattle.cursor_fragment.specs.Fragment.{takes_type, is_start, size_fits, is_outside, fragment_frame, fragment_checks, fragment_of, data_of}
use Rattle.cursor_fragment.proofs.Laws.UnusedFields.{starts_alike, checks_alike, fragment_alike, data_of_alike, start_position_alike}
use Rattle.cursor_pointer.specs.declared.Pointer.{Pointer}
use Rattle.cursor_picture.specs.declared.Picture.{Picture}
use Rattle.cursor_picture.specs.Picture.{held}
use Rattle.cursor_store.specs.Judging.{of_opened, opened_rules, other_rules, judging}
use Rattle.cursor_store.specs.Assembling.{store_checks, store_status}
use Rattle.cursor_store.specs.Storing.{moves, pointer_after, stored}
use Rattle.cursor_store.proofs.Laws.Storing.{stored_as, stored_is}

module _ (a b : List ℕ) (r : PartsAlike a b) where
  pub moves_alike : (p : Pointer) → moves p a ≡ moves p b
  unfolding moves
  moves_alike p = rw (starts_alike a b r, start_position_alike a b r)

  status_alike : (q : Picture) (image marks : List ℕ) → store_status q a image marks ≡ store_status q b image marks
  unfolding store_status store_checks
  status_alike q image marks = rw (checks_alike a b r, fragment_alike a b r, data_of_alike a b r)

  pub stored_alike : (p : Pointer) (q : Picture) (image marks : List ℕ) → stored p q a image marks ≡ stored p q b image marks
  unfolding pointer_after
  stored_alike p q image marks =
      stored_is p q a image marks ∙ ap (stored_as p q a image marks) (status_alike q image marks) ∙ go (store_status q b image marks)
      ∙ sym (stored_is p q b image marks)
    where
      go : (s : Status) → stored_as p q a image marks s ≡ stored_as p q b image marks s
      go (Ok u) = rw (fragment_alike a b r, data_of_alike a b r, starts_alike a b r, start_position_alike a b r)
      go (Err x) = refl

-- the rules for a fragment give no 3
no_three : (q : Picture) (f : Fragment) (ds image marks : List ℕ) → lacking 3 (judging q f ds image marks) ≡ true
unfolding judging opened_rules other_rules lacking
no_three q f ds image marks =
    by_test (λ (cs : List Check). lacking 3 cs ≡ true) (of_opened q f) (opened_rules q f ds image marks) (other_rules q f) (λ e. refl) (λ e. refl)

pub three_at_store
    : (q : Picture) (packet image marks : List ℕ)
    → (number_of (store_status q packet image marks) ≡ 3) ↔ ((held q (length image) (length marks) ≡ true) × WrongRtp packet)
unfolding store_status store_checks fragment_checks fragment_frame lacking
three_at_store q packet image marks =
    let own = fragment_checks (is_start packet) packet in
    let rules = judging q (fragment_of packet) (data_of packet) image marks in
    Iff.trans
    (other_first 3 refl refusal.ImageNotHeld (not (held q (length image) (length marks))) (own ++ rules) refl)
    (Iff.and (not-false _, λ e. rw e)
    (Iff.trans (first_gives 3 refl own rules (no_three q (fragment_of packet) (data_of packet) image marks))
    (Iff.trans (first_gives 3 refl (fragment_frame (is_start packet) packet) (refuse refusal.OutsideImage (is_outside (is_start packet) packet) ∷ []) refl)
    (three_exactly (takes_type (type_of packet)) (size_fits (is_start packet) packet) packet))))
