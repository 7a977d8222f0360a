-- Laws of judging: an accepted fragment has room; the sequence number matters for another id alone, where it wraps. Assumes nothing.
use Prim.Native.Nat.{ℕ, ◌≤◌}
use mathlib.Core.Path.{◌≡◌, refl, sym, ap}
use mathlib.Core.Bool.{Bool, true, false, not, cond, ◌||◌, false≢true}
use mathlib.Core.List.{List}
use lib.Dec.{eqb}
use lib.ListN.{length}
use Rattle.std.specs.Prelude.{Err}
use Rattle.wire.specs.Status.{Status, accept, accepted}
use Rattle.wire.specs.declared.status.Refusal.TheVariants as refusal
use Rattle.wire.specs.Checks.{first_of}
use Rattle.cursor_fragment.specs.declared.Fragment.{Fragment}
use Rattle.cursor_pointer.proofs.Laws.Pointer.{wrap_newer}
use Rattle.cursor_picture.specs.declared.Picture.{Picture}
use Rattle.cursor_picture.specs.Picture.{has_room}
use Rattle.cursor_picture.proofs.Laws.Picture.{room_says}
use Rattle.cursor_store.specs.Judging.{of_opened, opens, start_differs, bytes_differ, opened_rules, other_rules, judging, with_sequence, SequenceIgnored, WrapOpens}

no_room : (b : Bool) (s : Status) → accepted (cond (not b) (Err refusal.NoRoom) s) ≡ true → b ≡ true
no_room true s h = refl
no_room false s h = absurd (false≢true h)

pub judged_room
    : (q : Picture) (f : Fragment) (ds image marks : List ℕ) → accepted (first_of (judging q f ds image marks)) ≡ true
    → has_room f.total (length image) (length marks) ≡ true
unfolding judging first_of
judged_room q f ds image marks h = no_room (has_room f.total (length image) (length marks)) _ h

-- so its total is no larger than picture and marks
pub judged_fits
    : (q : Picture) (f : Fragment) (ds image marks : List ℕ) → accept ≡ first_of (judging q f ds image marks) → (f.total ≤ length image) × (f.total ≤ length marks)
judged_fits q f ds image marks e = room_says f.total (length image) (length marks) (judged_room q f ds image marks (ap accepted (sym e)))

no_conflict : (r t d b : Bool) → accepted (cond (not r) (Err refusal.NoRoom) (cond t (Err refusal.TotalDiffers) (cond (d || b) (Err refusal.Conflict) accept))) ≡ true → d ≡ false
no_conflict true true d b h = absurd (false≢true h)
no_conflict true false true b h = absurd (false≢true h)
no_conflict true false false b h = refl
no_conflict false t d b h = absurd (false≢true h)

-- an accepted fragment of the opened id is no second start that differs
pub judged_start
    : (q : Picture) (f : Fragment) (ds image marks : List ℕ) → accepted (first_of (judging q f ds image marks)) ≡ true → of_opened q f ≡ true
    → start_differs q f ≡ false
unfolding judging opened_rules first_of
judged_start q f ds image marks h o =
    no_conflict (has_room f.total (length image) (length marks)) (not (eqb q.total f.total)) (start_differs q f) (bytes_differ f.offset ds image marks) (simp o at h)

module _ (n : ℕ) (q : Picture) (f : Fragment) where
  pub opened_same : of_opened q (with_sequence n f) ≡ of_opened q f
  unfolding of_opened
  opened_same = refl

  start_same : start_differs q (with_sequence n f) ≡ start_differs q f
  unfolding start_differs
  start_same = refl

pub sequence_ignored : SequenceIgnored
unfolding SequenceIgnored judging opened_rules first_of
sequence_ignored n q f ds image marks h = simp (opened_same n q f, start_same n q f, h)

pub wrap_opens : WrapOpens
unfolding WrapOpens judging other_rules first_of
wrap_opens q f ds image marks o e e' r = let n : opens q f ≡ true = rw (e, e') (wrap_newer q.opened) in simp (r, o, n)

not_opened : (a : Bool) → accepted (cond a (Err refusal.NoRoom) (Err refusal.NotNewer)) ≡ false
not_opened true = refl
not_opened false = refl

pub judged_late
    : (q : Picture) (f : Fragment) (ds image marks : List ℕ) → of_opened q f ≡ false → opens q f ≡ false
    → accepted (first_of (judging q f ds image marks)) ≡ false
unfolding judging other_rules first_of
judged_late q f ds image marks o n = simp (o, n) (not_opened (not (has_room f.total (length image) (length marks))))
