-- What the exported calls leave in the records decodes to what the calls by value give; so demand 3 holds of the exported ones. Assumes
-- nothing.
use Prim.Native.Nat.{ℕ, ◌≤◌, ◌<◌}
use mathlib.Core.Path.{◌≡◌, refl, sym, ap, ◌∙◌, subst}
use mathlib.Core.Logic.{◌↔◌}
use mathlib.Core.Bool.{Bool, true, false, cond, ◌||◌, false≢true}
use mathlib.Core.List.{List, [], ◌∷◌}
use native.Mathlib.Omega.{arith}
use borrow.Author.Tests.{leb-true, le-leb, ne_eqb}
use lib.Dec.{eqb, leb}
use lib.ListN.{length, get_or}
use Rattle.std.specs.Prelude.{Result, Ok, Err}
use Rattle.wire.specs.Status.{Status, refusal_number}
use Rattle.wire.specs.declared.status.Refused.{Refused}
use Rattle.wire.proofs.Laws.Status.{number_positive}
use Rattle.wire.specs.Laid.{laid}
use Rattle.wire.specs.Number.{number, Bytes}
use Rattle.wire.specs.Signed.{signed}
use Rattle.wire.proofs.Laws.Bool.{both, by_test}
use Rattle.wire.proofs.Laws.Bytes.{laid_bytes}
use Rattle.wire.proofs.Laws.Laid.{length_laid}
use Rattle.wire.proofs.Laws.Number.{number_small}
use Rattle.scan.specs.Empty.{filled_at}
use Rattle.cursor_packet.specs.Position.{position_at}
use Rattle.cursor_fragment.specs.Fragment.{is_start, fragment_as, fragment_of}
use Rattle.cursor_fragment.specs.Start.{start_of, no_start, start_in}
use Rattle.cursor_fragment.specs.declared.Fragment.{Fragment}
use Rattle.cursor_pointer.specs.declared.Pointer.{Pointer}
use Rattle.cursor_pointer.specs.Pointer.{moved_to}
use Rattle.cursor_picture.specs.declared.Picture.{Picture}
use Rattle.cursor_picture.specs.Completeness.{completeness}
use Rattle.cursor_store.specs.Judging.{of_opened}
use Rattle.cursor_store.specs.declared.storing.Stored.{Stored}
use Rattle.cursor_store.specs.Assembling.{Outcome, store_status, opened_by, opened_for, with_start, picture_after}
use Rattle.cursor_store.specs.Storing.{moves, pointer_after}
use Rattle.cursor_store.specs.Receiver.{Call, fragment, other, packet_of, run}
use Rattle.cursor_store.specs.Calls.{State, is_accepted, answered, kept, next, by_value}
use Rattle.cursor_store.specs.DemandThree.{Whole, total_of, Taken, Given, covered, started, AllAccepted}
use Rattle.cursor_store.proofs.Laws.Storing.{pointer_start, pointer_kept, stored_as, stored_is}
use Rattle.cursor_store.proofs.Laws.DemandThree.{demand_three}
use Rattle.cursor_layout.specs.PointerLayout.{pointer_length, pointer_bytes, pointer_of}
use Rattle.cursor_layout.specs.PictureLayout.{picture_length, picture_of, PictureFits}
use Rattle.cursor_layout.proofs.Laws.PointerLayout.{signed_small, pointer_reads_back, pointer_bytes_lem}
use Rattle.cursor_layout.proofs.Laws.PictureLayout.{picture_fits, left_reads, left_length, left_bytes}
use Rattle.host_answers.specs.declared.Yes.{Yes}
use Rattle.host_answers.specs.Answers.{yes_of}
use Rattle.cursor_calls.specs.CursorCalls.{records_whole, pointer_left, StoreOutcome, all_answered, cursor_store, cursor_complete}
use Rattle.cursor_calls.specs.Records.{Lent, called, next_lent, RecordsLent, PacketsLent, over_records, decoded, StoredFits, RunDecoded, DemandThreeOverRecords}

-- What an accepted packet leaves fits the layouts.

module _ (packet : List ℕ) (small : Bytes packet) where
  abbrev f : Fragment
  f = fragment_of packet

  opened_fits : (b : Bool) (q : Picture) → PictureFits q → PictureFits (cond b q (opened_by f))
  unfolding opened_by fragment_as no_start
  opened_fits true q fits = fits
  opened_fits false q fits = record {
    id = number_small true 2 19 packet small;
    total = number_small true 4 15 packet small;
    opening = number_small true 2 2 packet small;
    image = omega arith;
    x = omega arith;
    y = omega arith;
  }

  started_fits : (b : Bool) (q : Picture) → PictureFits q → PictureFits (with_start (fragment_as b packet) q)
  unfolding with_start fragment_as start_in start_of
  started_fits true q fits = record {
    id = fits.id;
    total = fits.total;
    opening = fits.opening;
    image = number_small true 1 25 packet small;
    x = number_small true 2 26 packet small;
    y = number_small true 2 28 packet small;
  }
  started_fits false q fits = fits

  -- the pointer as the packet sets it
  abbrev set : Pointer
  set = record { known = true; sequence = number 2 packet 2; x = signed 2 (number 2 packet 21); y = signed 2 (number 2 packet 23) }

  moved_is : (p : Pointer) → moves p packet ≡ true → pointer_after p packet ≡ set
  unfolding moves moved_to position_at
  moved_is p e = let r = both _ _ e in pointer_start p packet r.0 ∙ simp r.1

  module _ (ps : List ℕ) where
    abbrev after : Pointer
    after = pointer_after (pointer_of ps) packet

    pointer_left_reads : pointer_length ≤ length ps → pointer_of (pointer_left packet after ps) ≡ after
    unfolding pointer_left
    pointer_left_reads h =
        by_test (λ (ys : List ℕ). pointer_of ys ≡ after) (moves (pointer_of ps) packet) (laid (pointer_bytes after) ps) ps
        (λ e. subst (λ (v : Pointer). pointer_of (laid (pointer_bytes v) ps) ≡ v) (sym (moved_is (pointer_of ps) e)) set_reads)
        (λ e. sym (pointer_kept (pointer_of ps) packet e))
      where
        set_reads : pointer_of (laid (pointer_bytes set) ps) ≡ set
        set_reads =
            pointer_reads_back set ps (number_small true 2 2 packet small) (signed_small _ (number_small true 2 21 packet small))
            (signed_small _ (number_small true 2 23 packet small)) h

    pointer_left_length : length (pointer_left packet after ps) ≡ length ps
    unfolding pointer_left
    pointer_left_length =
        by_test (λ (ys : List ℕ). length ys ≡ length ps) (moves (pointer_of ps) packet) (laid (pointer_bytes after) ps) ps
        (λ e. length_laid (pointer_bytes after) ps)
        (λ e. refl)

    pointer_left_bytes : Bytes ps → Bytes (pointer_left packet after ps)
    unfolding pointer_left
    pointer_left_bytes under =
        by_test Bytes (moves (pointer_of ps) packet) (laid (pointer_bytes after) ps) ps
        (λ e. laid_bytes (pointer_bytes after) ps (pointer_bytes_lem after) under)
        (λ e. under)

pub stored_fits : StoredFits
unfolding picture_after opened_for
stored_fits q packet fits small =
    let f = fragment_of packet in
    started_fits packet small (is_start packet) (cond (of_opened q f) q (opened_by f)) (opened_fits packet small (of_opened q f) q fits)

-- One call.

lengths : (s : Lent) → RecordsLent s → (pointer_length ≤ length s.pointer) × (picture_length ≤ length s.picture)
unfolding records_whole
lengths s r = let w = both _ _ r.whole in (leb-true _ _ w.0, leb-true _ _ w.1)

module _ (s : Lent) (r : RecordsLent s) (packet : List ℕ) where
  abbrev p : Pointer
  p = pointer_of s.pointer

  abbrev q : Picture
  q = picture_of s.picture

  abbrev judged : Status
  judged = store_status q packet s.image s.marks

  -- what the call by value answers and leaves, and the call over records, by the status of the checks
  abbrev valued : Status → Outcome (Result Stored Refused)
  valued = stored_as p q packet s.image s.marks

  abbrev called_as : Status → StoreOutcome
  called_as st = all_answered packet (valued st) s.pointer s.picture

  called_is : called s packet ≡ called_as judged
  unfolding cursor_store
  called_is = simp r.whole (rw (stored_is p q packet s.image s.marks))

  accepts_same : eqb (called s packet).answer.status 0 ≡ is_accepted (answered (decoded s) packet).answer
  accepts_same = rw (called_is, stored_is p q packet s.image s.marks) (go judged)
    where
      go : (st : Status) → eqb (called_as st).answer.status 0 ≡ is_accepted (valued st).answer
      go (Ok u) = refl
      go (Err x) = ne_eqb (refusal_number x) 0 (λ e. let more = number_positive x in let no : ⊥ = omega arith in no)

  module _ (small : Bytes packet) where
    step_decoded : decoded (next_lent s packet) ≡ next (decoded s) packet
    unfolding next_lent next
    step_decoded = rw (called_is, stored_is p q packet s.image s.marks) (go judged)
      where
        go : (st : Status)
            → record { pointer = pointer_of (called_as st).pointer; picture = picture_of (called_as st).picture; image = (called_as st).image; marks = (called_as st).marks }
            ≡ kept (valued st).answer p q (valued st).image (valued st).marks
        go (Ok u) =
            rw (
              pointer_left_reads packet small s.pointer (lengths s r).0,
              left_reads (picture_after q (fragment_of packet)) s.picture (stored_fits q packet (picture_fits s.picture r.picture) small) (lengths s r).1,
            )
        go (Err x) = refl

    still_lent : RecordsLent (next_lent s packet)
    unfolding next_lent
    still_lent = rw called_is (go judged)
      where
        go : (st : Status) → RecordsLent (record { pointer = (called_as st).pointer; picture = (called_as st).picture; image = (called_as st).image; marks = (called_as st).marks })
        go (Ok u) = record {
          whole = rw (pointer_left_length packet small s.pointer, left_length (picture_after q (fragment_of packet)) s.picture) r.whole;
          pointer = pointer_left_bytes packet small s.pointer r.pointer;
          picture = left_bytes (picture_after q (fragment_of packet)) s.picture r.picture;
        }
        go (Err x) = r

-- The completeness question.

is_yes : (a : Result Bool Refused) → yes_of a ≡ record { status = 0; yes = true } → a ≡ Ok true
is_yes (Ok true) h = refl
is_yes (Ok false) h = absurd (false≢true (ap (λ (y : Yes). y.yes) h))
is_yes (Err r) h = absurd (false≢true (ap (λ (y : Yes). y.yes) h))

complete_same
    : (s : Lent) → RecordsLent s
    → (over_records.Complete s → by_value.Complete (decoded s)) × (by_value.Complete (decoded s) → over_records.Complete s)
unfolding cursor_complete
complete_same s r =
    let there : leb picture_length (length s.picture) ≡ true = le-leb _ _ (lengths s r).1 in (
      λ h. is_yes (completeness (picture_of s.picture) (length s.image) s.marks) (simp there at h),
      λ h. simp there (ap yes_of h),
    )

-- Lists of calls.

all_lent : (s : Lent) (l : List Call) → RecordsLent s → PacketsLent l → RecordsLent (run over_records s l)
unfolding run
all_lent s [] r k = r
all_lent s (c ∷ l) r k = all_lent (next_lent s (packet_of c)) l (still_lent s r (packet_of c) k.0) k.1

pub run_decoded : RunDecoded
unfolding run
run_decoded s [] r k = refl
run_decoded s (c ∷ l) r k =
    run_decoded (next_lent s (packet_of c)) l (still_lent s r (packet_of c) k.0) k.1
    ∙ ap (λ (x : State). run by_value x l) (step_decoded s r (packet_of c) k.0)

module _ (w : Whole) where
  taken_decoded : (s : Lent) (l : List Call) → RecordsLent s → PacketsLent l → Taken over_records w s l → Taken by_value w (decoded s) l
  taken_decoded s [] r k t = tt
  taken_decoded s (fragment packet ∷ l) r k t =
      (t.0, subst (λ (x : State). Taken by_value w x l) (step_decoded s r packet k.0) (taken_decoded (next_lent s packet) l (still_lent s r packet k.0) k.1 t.1))
  taken_decoded s (other packet ∷ l) r k t =
      (sym (accepts_same s r packet) ∙ t.0, subst (λ (x : State). Taken by_value w x l) (step_decoded s r packet k.0) (taken_decoded (next_lent s packet) l (still_lent s r packet k.0) k.1 t.1))

all_accepted : (s : Lent) (l : List Call) → RecordsLent s → PacketsLent l → AllAccepted by_value (decoded s) l → AllAccepted over_records s l
all_accepted s [] r k a = tt
all_accepted s (fragment packet ∷ l) r k a =
    (accepts_same s r packet ∙ a.0, all_accepted (next_lent s packet) l (still_lent s r packet k.0) k.1 (subst (λ (x : State). AllAccepted by_value x l) (sym (step_decoded s r packet k.0)) a.1))
all_accepted s (other packet ∷ l) r k a =
    all_accepted (next_lent s packet) l (still_lent s r packet k.0) k.1 (subst (λ (x : State). AllAccepted by_value x l) (sym (step_decoded s r packet k.0)) a)

given_decoded : (w : Whole) (s : Lent) (l : List Call) → Given over_records w s l → Given by_value w (decoded s) l
given_decoded w s l g = record {
  asked = tt;
  opened = record {
    opened = g.opened.opened;
    same_id = g.opened.same_id;
    same_total = g.opened.same_total;
    clear = g.opened.clear;
    agreeing = g.opened.agreeing;
  };
  taken = taken_decoded w s l g.asked.0 g.asked.1 g.taken;
  agreeing = record { common = g.agreeing.common; seen = g.agreeing.seen; starts = g.agreeing.starts };
}

pub demand_three_over_records : DemandThreeOverRecords
demand_three_over_records w s l g =
    let h = demand_three w (decoded s) l (given_decoded w s l g) in
    let e : run by_value (decoded s) l ≡ decoded (run over_records s l) = sym (run_decoded s l g.asked.0 g.asked.1) in
    let c = complete_same (run over_records s l) (all_lent s l g.asked.0 g.asked.1) in
    let v = subst (λ (x : State). by_value.Complete x ↔ (((started l || (picture_of s.picture).seen) ≡ true) × ((i : ℕ) → i < total_of w → filled_at x.marks i ≡ true))) e h.complete in
    record {
      each_accepted = all_accepted s l g.asked.0 g.asked.1 h.each_accepted;
      filled = subst (λ (x : State). (i : ℕ) → filled_at x.marks i ≡ (covered l i || filled_at s.marks i)) e h.filled;
      whole_byte = subst (λ (x : State). (i : ℕ) → i < total_of w → filled_at x.marks i ≡ true → get_or x.image i 0 ≡ get_or w.image i 0) e h.whole_byte;
      complete = (λ y. v.0 (c.0 y), λ y. c.1 (v.1 y));
      same = λ l' g' m.
          let e' : run by_value (decoded s) l' ≡ decoded (run over_records s l') = sym (run_decoded s l' g'.asked.0 g'.asked.1) in
          let b = h.same l' (given_decoded w s l' g') m in
          record {
            image = sym (ap (λ (x : State). x.image) e) ∙ b.image ∙ ap (λ (x : State). x.image) e';
            marks = sym (ap (λ (x : State). x.marks) e) ∙ b.marks ∙ ap (λ (x : State). x.marks) e';
            seen = sym (ap (λ (x : State). x.picture.seen) e) ∙ b.seen ∙ ap (λ (x : State). x.picture.seen) e';
            start = sym (ap (λ (x : State). x.picture.start) e) ∙ b.start ∙ ap (λ (x : State). x.picture.start) e';
          };
    }
