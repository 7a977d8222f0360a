-- One call, on the state that the host keeps: a refusal keeps it, an accepted fragment changes what it covers, and opening sets the
-- sequence number that later fragments of other ids are held to. Assumes nothing.
use Prim.Native.Nat.{ℕ, ◌+◌, ◌≤◌}
use mathlib.Core.Path.{◌≡◌, refl, sym, ap, ◌∙◌}
use mathlib.Core.Bool.{Bool, true, false, cond, false≢true}
use mathlib.Core.List.{List}
use native.Mathlib.Omega.{arith}
use borrow.Author.Tests.{ne_eqb, not-false}
use lib.ListN.{length, get_or, replicate, length-replicate}
use Rattle.wire.specs.Splice.{splice}
use Rattle.std.specs.Prelude.{Ok, Err}
use Rattle.wire.specs.Status.{Status, accepted, number_of}
use Rattle.wire.proofs.Laws.Splice.{length_splice, after_part, get_d_splice}
use Rattle.wire.specs.Checks.{first_of}
use Rattle.wire.specs.Numbered.{numbered}
use Rattle.cursor_fragment.specs.Fragment.{is_start, starts, own_fields, fragment_of, data_of, DataInside}
use Rattle.cursor_fragment.specs.Start.{same_start}
use Rattle.cursor_fragment.specs.declared.Fragment.{Fragment}
use Rattle.cursor_fragment.proofs.Laws.Fragment.{data_inside, starts_is}
use Rattle.cursor_fragment.proofs.Laws.Start.{same_start_is}
use Rattle.cursor_picture.specs.declared.Picture.{Picture}
use Rattle.cursor_picture.proofs.Laws.Picture.{room_says}
use Rattle.cursor_store.specs.Judging.{of_opened, start_differs, opens, judging}
use Rattle.cursor_store.specs.Assembling.{store_status, opened_by, opened_for, cleared_for, image_after, marks_after, with_start, picture_after}
use Rattle.cursor_store.specs.Storing.{pointer_after}
use Rattle.cursor_store.specs.Receiver.{covers}
use Rattle.cursor_store.specs.Calls.{State, is_accepted, answered, kept, next, NumberByChecks, RefusalKeeps, PictureKept, OutsideKept, FormerStaysClosed}
use Rattle.cursor_store.proofs.Laws.Judging.{judged_room, judged_start, judged_late}
use Rattle.cursor_store.proofs.Laws.Assembling.{store_passed}
use Rattle.cursor_store.proofs.Laws.Storing.{stored_as, stored_is, stored_accepted}

-- what the answer says of the checks
module _ (s : State) (packet : List ℕ) where
  abbrev status_of : Status
  status_of = store_status s.picture packet s.image s.marks

  same_verdict : accepted status_of ≡ is_accepted (answered s packet).answer
  same_verdict = rw (stored_is s.pointer s.picture packet s.image s.marks) (go status_of)
    where
      go : (st : Status) → accepted st ≡ is_accepted (stored_as s.pointer s.picture packet s.image s.marks st).answer
      go (Ok u) = refl
      go (Err r) = refl

pub number_by_checks : NumberByChecks
number_by_checks s packet = rw (stored_is s.pointer s.picture packet s.image s.marks) (go (status_of s packet))
  where
    go : (st : Status) → numbered (stored_as s.pointer s.picture packet s.image s.marks st).answer ≡ record { number = number_of st; place = 0 }
    go (Ok u) = refl
    go (Err r) = refl

pub refusal_keeps : RefusalKeeps
unfolding RefusalKeeps next
refusal_keeps s packet h = rw (stored_is s.pointer s.picture packet s.image s.marks) (go (status_of s packet) (same_verdict s packet ∙ h))
  where
    go : (st : Status) → accepted st ≡ false
        → kept (stored_as s.pointer s.picture packet s.image s.marks st).answer s.pointer s.picture
        (stored_as s.pointer s.picture packet s.image s.marks st).image (stored_as s.pointer s.picture packet s.image s.marks st).marks ≡ s
    go (Ok u) k = absurd (false≢true (sym k))
    go (Err r) k = refl

-- an accepted call
module _ (s : State) (packet : List ℕ) (h : is_accepted (answered s packet).answer ≡ true) where
  status_accepted : accepted (status_of s packet) ≡ true
  status_accepted = same_verdict s packet ∙ h

  next_is
      : next s packet
      ≡ record {
        pointer = pointer_after s.pointer packet;
        picture = picture_after s.picture (fragment_of packet);
        image = image_after (fragment_of packet) (data_of packet) s.image;
        marks = marks_after s.picture (fragment_of packet) (data_of packet) s.marks;
      }
  unfolding next
  next_is = rw (stored_accepted s.pointer s.picture packet s.image s.marks status_accepted)

  places : ((fragment_of packet).offset + length (data_of packet) ≤ (fragment_of packet).total)
      × ((fragment_of packet).total ≤ length s.image) × ((fragment_of packet).total ≤ length s.marks)
  unfolding DataInside
  places =
      let r = store_passed s.picture packet s.image s.marks status_accepted in
      let m = judged_room s.picture (fragment_of packet) (data_of packet) s.image s.marks r.2 in
      let l = room_says (fragment_of packet).total (length s.image) (length s.marks) m in
      (data_inside packet r.1, l.0, l.1)

  picture_stays : of_opened s.picture (fragment_of packet) ≡ true → (is_start packet ≡ true → s.picture.seen ≡ true)
      → (next s packet).picture ≡ s.picture
  unfolding picture_after opened_for with_start start_differs
  picture_stays o seen = ap (λ (x : State). x.picture) next_is ∙ simp o (go (is_start packet) refl)
    where
      q : Picture
      q = s.picture

      go : (b : Bool) → is_start packet ≡ b → with_start (fragment_of packet) q ≡ q
      go false e = simp (starts_is packet ∙ e)
      go true e =
          let differs = judged_start q (fragment_of packet) (data_of packet) s.image s.marks (store_passed q packet s.image s.marks status_accepted).2 o in
          let same : same_start q.start (own_fields (fragment_of packet)) ≡ true = not-false _ (simp (starts_is packet ∙ e, seen e) at differs) in
          simp (starts_is packet ∙ e) (rw (← same_start_is q.start (own_fields (fragment_of packet)) same, ← seen e))

  module _ (i : ℕ) (u : covers packet i ≡ false) where
    abbrev f : Fragment
    f = fragment_of packet

    image_kept : get_or (next s packet).image i 0 ≡ get_or s.image i 0
    unfolding image_after
    image_kept =
        let p = places in
        ap (λ (x : State). get_or x.image i 0) next_is ∙ get_d_splice f.offset (data_of packet) s.image (omega arith) i ∙ rw u

    cleared_long : (b : Bool) → length (cond b s.marks (splice 0 (replicate f.total 0) s.marks)) ≡ length s.marks
    cleared_long true = refl
    cleared_long false =
        length_splice 0 (replicate f.total 0) s.marks (rw (length-replicate {A = ℕ} f.total 0) (let p = places in omega arith))

    marks_as : get_or (next s packet).marks i 0 ≡ get_or (cleared_for s.picture f s.marks) i 0
    unfolding marks_after cleared_for
    marks_as =
        let p = places in
        let n = length-replicate {A = ℕ} (length (data_of packet)) 1 in
        let m = cleared_long (of_opened s.picture f) in
        ap (λ (x : State). get_or x.marks i 0) next_is
        ∙ get_d_splice f.offset (replicate (length (data_of packet)) 1) (cleared_for s.picture f s.marks) (omega arith) i
        ∙ rw (n, u)

    beyond_kept : f.total ≤ i → get_or (next s packet).marks i 0 ≡ get_or s.marks i 0
    unfolding cleared_for
    beyond_kept l = marks_as ∙ go (of_opened s.picture f)
      where
        go : (b : Bool) → get_or (cond b s.marks (splice 0 (replicate f.total 0) s.marks)) i 0 ≡ get_or s.marks i 0
        go true = refl
        go false =
            let p = places in
            let n = length-replicate {A = ℕ} f.total 0 in
            after_part 0 (replicate f.total 0) s.marks (omega arith) i (omega arith)

    opened_kept : of_opened s.picture f ≡ true → get_or (next s packet).marks i 0 ≡ get_or s.marks i 0
    unfolding cleared_for
    opened_kept o = marks_as ∙ simp o

pub picture_kept : PictureKept
unfolding PictureKept
picture_kept s packet h o seen = picture_stays s packet h o seen

pub outside_kept : OutsideKept
unfolding OutsideKept RefusalKeeps
outside_kept s packet i u = go (is_accepted (answered s packet).answer) refl
  where
    go : (b : Bool) → is_accepted (answered s packet).answer ≡ b
        → (get_or (next s packet).image i 0 ≡ get_or s.image i 0)
        × ((fragment_of packet).total ≤ i → get_or (next s packet).marks i 0 ≡ get_or s.marks i 0)
        × (of_opened s.picture (fragment_of packet) ≡ true → get_or (next s packet).marks i 0 ≡ get_or s.marks i 0)
    go true h = (image_kept s packet h i u, beyond_kept s packet h i u, opened_kept s packet h i u)
    go false h = rw (refusal_keeps s packet h) (refl, λ l. refl, λ o. refl)

-- the record of a picture just opened
opened_as : (b : Bool) (f : Fragment) → starts f ≡ b
    → ((with_start f (opened_by f)).opened ≡ true) × ((with_start f (opened_by f)).id ≡ f.id) × ((with_start f (opened_by f)).opening ≡ f.sequence)
unfolding with_start opened_by
opened_as true f e = (simp e, simp e, simp e)
opened_as false f e = (simp e, simp e, simp e)

pub former_stays_closed : FormerStaysClosed
unfolding FormerStaysClosed RefusalKeeps of_opened opened_for picture_after
former_stays_closed s opener late h o d n =
    let f = fragment_of opener in
    let g = fragment_of late in
    let s' = next s opener in
    let e : s'.picture ≡ with_start f (opened_by f) = ap (λ (x : State). x.picture) (next_is s opener h) ∙ simp o in
    let r = opened_as (starts f) f refl in
    let not-id : of_opened s'.picture g ≡ false = rw (e, r.0, r.1, ne_eqb f.id g.id d) in
    let not_newer : opens s'.picture g ≡ false = rw (e, r.0, r.2) n in
    let late_is = judged_late s'.picture g (data_of late) s'.image s'.marks not-id not_newer in
    let refused = sym (same_verdict s' late) ∙ store_stopped s'.picture late s'.image s'.marks late_is in
    (refused, refusal_keeps s' late refused)
  where
    store_stopped : (q : Picture) (packet image marks : List ℕ) → accepted (first_of (judging q (fragment_of packet) (data_of packet) image marks)) ≡ false
        → accepted (store_status q packet image marks) ≡ false
    store_stopped q packet image marks e = go (accepted (store_status q packet image marks)) refl
      where
        go : (b : Bool) → accepted (store_status q packet image marks) ≡ b → b ≡ false
        go true k = sym (store_passed q packet image marks k).2 ∙ e
        go false k = refl
