-- The call for starts and continuations by its outcomes. Assumes nothing.
use Prim.Native.Nat.{ℕ}
use mathlib.Core.Path.{◌≡◌, refl, ◌∙◌}
use mathlib.Core.Bool.{Bool, true, false, cond, ◌&&◌, false≢true}
use mathlib.Core.List.{List}
use Rattle.std.specs.Prelude.{Result, Ok, Err}
use Rattle.wire.specs.Status.{Status, accept, accepted, refused_at}
use Rattle.wire.specs.declared.status.Refused.{Refused}
use Rattle.cursor_fragment.specs.Fragment.{is_start, fragment_of, data_of}
use Rattle.cursor_fragment.specs.Start.{start_position}
use Rattle.cursor_pointer.specs.declared.Pointer.{Pointer}
use Rattle.cursor_pointer.specs.Pointer.{pointer_moves, moved_to}
use Rattle.cursor_picture.specs.declared.Picture.{Picture}
use Rattle.cursor_store.specs.declared.storing.Stored.{Stored}
use Rattle.cursor_store.specs.Assembling.{store_status, image_after, marks_after, picture_after, Outcome, outcome, assembled_as, assembled}
use Rattle.cursor_store.specs.Storing.{moves, pointer_after, with_pointer, stored, PointerKept}

-- the pointer after a start
pub pointer_start
    : (p : Pointer) (packet : List ℕ) → is_start packet ≡ true
    → pointer_after p packet ≡ moved_to p (start_position packet).sequence (start_position packet).x (start_position packet).y
unfolding pointer_after
pointer_start p packet e = simp e

pub pointer_kept : PointerKept
unfolding pointer_after moves moved_to
pointer_kept p packet e = go (is_start packet) e
  where
    go : (b : Bool) → (b && pointer_moves p (start_position packet).sequence) ≡ false
        → cond b (moved_to p (start_position packet).sequence (start_position packet).x (start_position packet).y) p ≡ p
    go true k = simp k
    go false k = refl

module _ (p : Pointer) (q : Picture) (packet image marks : List ℕ) where
  -- what the checks decide
  abbrev pub stored_as : Status → Outcome (Result Stored Refused)
  stored_as (Ok u) =
      outcome (Ok (record { pointer = pointer_after p packet; picture = picture_after q (fragment_of packet) }))
      (image_after (fragment_of packet) (data_of packet) image) (marks_after q (fragment_of packet) (data_of packet) marks)
  stored_as (Err r) = outcome (Err (refused_at r 0)) image marks

  pub stored_is : stored p q packet image marks ≡ stored_as (store_status q packet image marks)
  unfolding stored assembled assembled_as
  stored_is = go (store_status q packet image marks)
    where
      go : (s : Status) → with_pointer p packet (assembled_as s q (fragment_of packet) (data_of packet) image marks) ≡ stored_as s
      go (Ok u) = refl
      go (Err r) = refl

  pub stored_accepted
      : accepted (store_status q packet image marks) ≡ true
      → stored p q packet image marks
      ≡ outcome (Ok (record { pointer = pointer_after p packet; picture = picture_after q (fragment_of packet) }))
      (image_after (fragment_of packet) (data_of packet) image) (marks_after q (fragment_of packet) (data_of packet) marks)
  stored_accepted e = stored_is ∙ go (store_status q packet image marks) e
    where
      go : (s : Status) → accepted s ≡ true → stored_as s ≡ stored_as accept
      go (Ok u) k = refl
      go (Err r) k = absurd (false≢true k)
