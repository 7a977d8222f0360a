-- Demand 3: each fragment is accepted, and each byte, mark and start field after a list of calls has a closed form in which order and
-- repeats don't occur. Assumes nothing.
use Prim.Native.Nat.{ℕ, ◌+◌, ◌-◌, ◌≤◌, ◌<◌}
use mathlib.Core.Path.{◌≡◌, refl, sym, ap, ◌∙◌, subst}
use mathlib.Core.Logic.{⊎_elim, ◌↔◌}
use mathlib.Core.List.{List, [], ◌∷◌}
use mathlib.Core.Bool.{Bool, true, false, not, cond, ◌&&◌, ◌||◌, false≢true}
use native.Mathlib.Omega.{arith}
use lib.Dec.{leb, ltb, eqb}
use lib.ListN.{length, get_or, drop, replicate, length-replicate, get_or-replicate}
use lib.Seq.{ext_get_or, get_or-take, get_or-drop}
use borrow.Author.Tests.{leb-true, ltb-true, eq-eqb}
use Rattle.wire.specs.Splice.{part, splice}
use Rattle.std.specs.Prelude.{Result, Ok}
use Rattle.wire.specs.declared.status.Refused.{Refused}
use Rattle.wire.specs.Status.{accept, accepted}
use Rattle.wire.proofs.Laws.Splice.{length_splice, get_d_splice}
use Rattle.scan.specs.Conflict.{conflict_at, conflict_in}
use Rattle.scan.specs.Empty.{filled_at}
use Rattle.scan.specs.Order.{lesser}
use Rattle.scan.proofs.Laws.Below.{below_none}
use Rattle.scan.proofs.Laws.Order.{lesser_le}
use Rattle.wire.specs.Checks.{first_of}
use Rattle.cursor_fragment.specs.Fragment.{is_start, starts, own_fields, fragment_of, data_of, DataInside}
use Rattle.cursor_fragment.specs.declared.Fragment.{Fragment}
use Rattle.cursor_fragment.specs.declared.start.Start.{Start}
use Rattle.cursor_fragment.specs.Start.{same_start}
use Rattle.wire.proofs.Laws.Bool.{both}
use Rattle.cursor_fragment.proofs.Laws.Fragment.{data_inside, starts_is}
use Rattle.cursor_picture.specs.declared.Picture.{Picture}
use Rattle.cursor_picture.specs.Picture.{has_room, held}
use Rattle.cursor_picture.specs.Completeness.{all_filled, completeness}
use Rattle.cursor_picture.proofs.Laws.Completeness.{all_filled_lem, filled_all}
use Rattle.cursor_picture.proofs.Laws.Picture.{room_says, held_says}
use Rattle.cursor_store.specs.Judging.{of_opened, start_differs, bytes_differ, opened_rules, judging}
use Rattle.cursor_store.specs.Assembling.{opened_for, cleared_for, image_after, marks_after, with_start, picture_after, outcome}
use Rattle.cursor_store.specs.Storing.{pointer_after}
use Rattle.cursor_store.specs.Receiver.{Call, fragment, other, covers, run}
use Rattle.cursor_store.specs.Calls.{State, is_accepted, answered, next, by_value, RefusalKeeps}
use Rattle.cursor_store.specs.DemandThree.{Whole, total_of, OpenedAs, CutFrom, Taken, StartsHave, Given, covered, started, AllAccepted, SameFragment, Among, Within, SameEnd, DemandThree}
use Rattle.cursor_store.proofs.Laws.Calls.{refusal_keeps}
use Rattle.cursor_store.proofs.Laws.Assembling.{store_status_lem}
use Rattle.cursor_store.proofs.Laws.Storing.{stored_accepted}

-- One fragment that is cut from the whole picture.

cond_same : (b : Bool) (x y z : ℕ) → (b ≡ true → x ≡ y) → cond b x z ≡ cond b y z
cond_same true x y z h = h refl
cond_same false x y z h = refl

same_itself : (x y : Start) → x ≡ y → same_start x y ≡ true
unfolding same_start
same_itself x y e = rw (e, eq-eqb _ _ refl, eq-eqb _ _ refl, eq-eqb _ _ refl)

covers_says : (packet : List ℕ) (i : ℕ) → covers packet i ≡ true → ((fragment_of packet).offset ≤ i) × (i < (fragment_of packet).offset + length (data_of packet))
covers_says packet i h =
    let o = (fragment_of packet).offset in
    let r = both (leb o i) (ltb i (o + length (data_of packet))) h in
    (leb-true o i r.0, ltb-true i (o + length (data_of packet)) r.1)

-- the start fields a are kept, where a start is seen
abbrev seen_as : Start → Picture → Picture
seen_as a q = record { opened = q.opened; id = q.id; total = q.total; opening = q.opening; seen = true; start = a }

module _ (w : Whole) (s : State) (a : Start) (o : OpenedAs by_value w s) (u : s.picture.seen ≡ true → s.picture.start ≡ a)
    (packet : List ℕ) (c : CutFrom w packet) (v : is_start packet ≡ true → own_fields (fragment_of packet) ≡ a) where
  abbrev f : Fragment
  f = fragment_of packet

  abbrev ds : List ℕ
  ds = data_of packet

  end : f.offset + length ds ≤ total_of w
  unfolding DataInside
  end = subst (λ (t : ℕ). f.offset + length ds ≤ t) c.same_total (data_inside packet c.well_formed)

  room : has_room (total_of w) (length s.image) (length s.marks) ≡ true
  room = rw (← o.same_total) (held_says s.picture (length s.image) (length s.marks) o.clear o.opened)

  fit : (f.offset + length ds ≤ length s.image) × (f.offset + length ds ≤ length s.marks)
  fit = let r = room_says (total_of w) (length s.image) (length s.marks) room in (omega (arith, end, r.0), omega (arith, end, r.1))

  is_opened : of_opened s.picture f ≡ true
  unfolding of_opened
  is_opened = simp (o.opened, eq-eqb s.picture.id f.id (o.same_id ∙ sym c.same_id))

  starts_agree : start_differs s.picture f ≡ false
  unfolding start_differs
  starts_agree = go (starts f) refl s.picture.seen refl
    where
      go : (x : Bool) → starts f ≡ x → (y : Bool) → s.picture.seen ≡ y → start_differs s.picture f ≡ false
      go true e true h = simp (e, h, same_itself s.picture.start (own_fields f) (u h ∙ sym (v (sym (starts_is packet) ∙ e))))
      go true e false h = simp (e, h)
      go false e y h = simp e

  cut_byte : (k : ℕ) → k < length ds → get_or ds k 0 ≡ get_or w.image (f.offset + k) 0
  cut_byte k l =
      ap (λ (xs : List ℕ). get_or xs k 0) c.same_bytes ∙ get_or-take (length ds) (drop f.offset w.image) k 0 l
      ∙ get_or-drop f.offset w.image k 0

  part_byte : (xs : List ℕ) (k : ℕ) → k < length ds → get_or (part f.offset (length ds) xs) k 0 ≡ get_or xs (f.offset + k) 0
  part_byte xs k l = get_or-take (length ds) (drop f.offset xs) k 0 l ∙ get_or-drop f.offset xs k 0

  bytes_agree : bytes_differ f.offset ds s.image s.marks ≡ false
  unfolding bytes_differ conflict_in
  bytes_agree = below_none n (conflict_at ms is ds) (λ k l. no_conflict k (omega (arith, below)))
    where
      is : List ℕ
      is = part f.offset (length ds) s.image

      ms : List ℕ
      ms = part f.offset (length ds) s.marks

      n : ℕ
      n = lesser (length ms) (lesser (length is) (length ds))

      below : n ≤ length ds
      below =
          let x = lesser_le (length ms) (lesser (length is) (length ds)) in
          let y = lesser_le (length is) (length ds) in
          omega arith

      no_conflict : (k : ℕ) → k < length ds → conflict_at ms is ds k ≡ false
      no_conflict k l = rw (part_byte s.marks k l, part_byte s.image k l) (go (filled_at s.marks (f.offset + k)) refl)
        where
          go : (b : Bool) → filled_at s.marks (f.offset + k) ≡ b → (b && not (eqb (get_or s.image (f.offset + k) 0) (get_or ds k 0))) ≡ false
          go true e =
              let i : f.offset + k < total_of w = omega (arith, end) in
              simp (eq-eqb (get_or s.image (f.offset + k) 0) (get_or ds k 0) (o.agreeing (f.offset + k) i e ∙ sym (cut_byte k l)))
          go false e = refl

  judged : first_of (judging s.picture f ds s.image s.marks) ≡ accept
  unfolding first_of judging opened_rules
  judged =
      let r : has_room f.total (length s.image) (length s.marks) ≡ true = rw c.same_total room in
      let t = eq-eqb s.picture.total f.total (o.same_total ∙ sym c.same_total) in
      simp (r, is_opened, t, starts_agree, bytes_agree)

  abbrev then_is : State
  then_is = record {
    pointer = pointer_after s.pointer packet;
    picture = with_start f s.picture;
    image = splice f.offset ds s.image;
    marks = splice f.offset (replicate (length ds) 1) s.marks;
  }

  answer_is
      : answered s packet ≡ outcome (Ok (record { pointer = then_is.pointer; picture = then_is.picture })) then_is.image then_is.marks
  unfolding opened_for cleared_for image_after marks_after picture_after
  answer_is =
      stored_accepted s.pointer s.picture packet s.image s.marks
      (ap accepted (store_status_lem s.picture packet s.image s.marks) ∙ simp (o.clear, c.well_formed, judged))
      ∙ simp is_opened

  is_accepted_lem : is_accepted (answered s packet).answer ≡ true
  is_accepted_lem = rw answer_is

  next_is : next s packet ≡ then_is
  unfolding next
  next_is = rw answer_is

  image_at : (i : ℕ) → get_or then_is.image i 0 ≡ cond (covers packet i) (get_or w.image i 0) (get_or s.image i 0)
  image_at i = get_d_splice f.offset ds s.image fit.0 i ∙ cond_same (covers packet i) _ _ _ (λ h. whole h)
    where
      whole : covers packet i ≡ true → get_or ds (i - f.offset) 0 ≡ get_or w.image i 0
      whole h =
          let r = covers_says packet i h in
          let e : f.offset + (i - f.offset) ≡ i = omega arith in
          cut_byte (i - f.offset) (omega arith) ∙ ap (λ (m : ℕ). get_or w.image m 0) e

  marks_at : (i : ℕ) → get_or then_is.marks i 0 ≡ cond (covers packet i) 1 (get_or s.marks i 0)
  marks_at i =
      get_d_splice f.offset (replicate (length ds) 1) s.marks (rw (length-replicate {A = ℕ} (length ds) 1) fit.1) i
      ∙ rw (length-replicate {A = ℕ} (length ds) 1) (cond_same (covers packet i) _ _ _ (λ h. one h))
    where
      one : covers packet i ≡ true → ◌≡◌ {A = ℕ} (get_or (replicate (length ds) 1) (i - f.offset) 0) 1
      one h = let r = covers_says packet i h in get_or-replicate (length ds) (i - f.offset) 1 0 (omega arith)

  image_long : length then_is.image ≡ length s.image
  image_long = length_splice f.offset ds s.image fit.0

  marks_long : length then_is.marks ≡ length s.marks
  marks_long = length_splice f.offset (replicate (length ds) 1) s.marks (rw (length-replicate {A = ℕ} (length ds) 1) fit.1)

  picture_is : then_is.picture ≡ cond (is_start packet) (seen_as a s.picture) s.picture
  unfolding with_start
  picture_is = go (is_start packet) refl
    where
      go : (b : Bool) → is_start packet ≡ b → with_start f s.picture ≡ cond b (seen_as a s.picture) s.picture
      go true e = simp (starts_is packet ∙ e, v e)
      go false e = simp (starts_is packet ∙ e)

module _ (a : Start) (q : Picture) where
  same_opened : (b : Bool) → ((cond b (seen_as a q) q).opened ≡ q.opened) × ((cond b (seen_as a q) q).id ≡ q.id) × ((cond b (seen_as a q) q).total ≡ q.total)
  same_opened true = (refl, refl, refl)
  same_opened false = (refl, refl, refl)

  seen_fields : (b : Bool) → (q.seen ≡ true → q.start ≡ a) → (cond b (seen_as a q) q).seen ≡ true → (cond b (seen_as a q) q).start ≡ a
  seen_fields true u h = refl
  seen_fields false u h = u h

  seen_again : (b : Bool) → seen_as a (cond b (seen_as a q) q) ≡ seen_as a q
  seen_again true = refl
  seen_again false = refl

  seen_or : (b : Bool) → (cond b (seen_as a q) q).seen ≡ (b || q.seen)
  seen_or true = refl
  seen_or false = refl

filled_or : (b : Bool) (m : ℕ) → not (eqb (cond b 1 m) 0) ≡ (b || not (eqb m 0))
filled_or true m = refl
filled_or false m = refl

holds_or : (b : Bool) (x y m : ℕ) → (not (eqb m 0) ≡ true → y ≡ x) → not (eqb (cond b 1 m) 0) ≡ true → cond b x y ≡ x
holds_or true x y m f h = refl
holds_or false x y m f h = f h

-- an earlier fragment, or a later one
cond_or : {A : Type 0} (b d : Bool) (x y : A) → cond d x (cond b x y) ≡ cond (b || d) x y
cond_or true true x y = refl
cond_or true false x y = refl
cond_or false d x y = refl

-- A state that is the same as s but for what fragments cut from the whole picture have stored, `over` saying which places, and `new`
-- whether a start.

record Grown (w : Whole) (a : Start) (s : State) (over : ℕ → Bool) (new : Bool) (s' : State) : Type 0 where
  image_long : length s'.image ≡ length s.image
  marks_long : length s'.marks ≡ length s.marks
  image_at : (i : ℕ) → get_or s'.image i 0 ≡ cond (over i) (get_or w.image i 0) (get_or s.image i 0)
  marks_at : (i : ℕ) → get_or s'.marks i 0 ≡ cond (over i) 1 (get_or s.marks i 0)
  picture_is : s'.picture ≡ cond new (seen_as a s.picture) s.picture

module _ (w : Whole) (a : Start) (s : State) (over : ℕ → Bool) (new : Bool) (s' : State) (g : Grown w a s over new s') where
  filled_is : (i : ℕ) → filled_at s'.marks i ≡ (over i || filled_at s.marks i)
  filled_is i = ap (λ (m : ℕ). not (eqb m 0)) (g.marks_at i) ∙ filled_or (over i) (get_or s.marks i 0)

  still_opened : OpenedAs by_value w s → OpenedAs by_value w s'
  unfolding held
  still_opened o =
      let x = same_opened a s.picture new in
      let opened = ap (λ (q : Picture). q.opened) g.picture_is ∙ x.0 in
      let total = ap (λ (q : Picture). q.total) g.picture_is ∙ x.2 in
      record {
        opened = opened ∙ o.opened;
        same_id = ap (λ (q : Picture). q.id) g.picture_is ∙ x.1 ∙ o.same_id;
        same_total = total ∙ o.same_total;
        clear = rw (opened, total, g.image_long, g.marks_long) o.clear;
        agreeing = λ i l h. g.image_at i ∙ holds_or (over i) _ _ _ (o.agreeing i l) (sym (ap (λ (m : ℕ). not (eqb m 0)) (g.marks_at i)) ∙ h);
      }

  still_agreeing : (s.picture.seen ≡ true → s.picture.start ≡ a) → s'.picture.seen ≡ true → s'.picture.start ≡ a
  still_agreeing u h =
      ap (λ (q : Picture). q.start) g.picture_is
      ∙ seen_fields a s.picture new u (sym (ap (λ (q : Picture). q.seen) g.picture_is) ∙ h)

-- what a list of calls leaves
record Ends (w : Whole) (a : Start) (s : State) (l : List Call) : Type 0 where
  all_accepted : AllAccepted by_value s l
  grown : Grown w a s (covered l) (started l) (run by_value s l)

one_grown : (w : Whole) (s : State) (a : Start) (o : OpenedAs by_value w s) (u : s.picture.seen ≡ true → s.picture.start ≡ a) (packet : List ℕ)
    (c : CutFrom w packet) (v : is_start packet ≡ true → own_fields (fragment_of packet) ≡ a)
    → Grown w a s (covers packet) (is_start packet) (next s packet)
one_grown w s a o u packet c v = rw (next_is w s a o u packet c v)
    (record {
      image_long = image_long w s a o u packet c v;
      marks_long = marks_long w s a o u packet c v;
      image_at = image_at w s a o u packet c v;
      marks_at = marks_at w s a o u packet c v;
      picture_is = picture_is w s a o u packet c v;
    })

more_grown : (w : Whole) (a : Start) (s m e : State) (over over' : ℕ → Bool) (new new' : Bool) → Grown w a s over new m → Grown w a m over' new' e
    → Grown w a s (λ i. over i || over' i) (new || new') e
more_grown w a s m e over over' new new' g h = record {
  image_long = h.image_long ∙ g.image_long;
  marks_long = h.marks_long ∙ g.marks_long;
  image_at = λ i. h.image_at i ∙ ap (λ (x : ℕ). cond (over' i) (get_or w.image i 0) x) (g.image_at i) ∙ cond_or (over i) (over' i) _ _;
  marks_at = λ i. h.marks_at i ∙ ap (λ (x : ℕ). cond (over' i) 1 x) (g.marks_at i) ∙ cond_or (over i) (over' i) _ _;
  picture_is =
      h.picture_is ∙ ap (λ (q : Picture). cond new' (seen_as a q) q) g.picture_is
      ∙ ap (λ (q : Picture). cond new' q (cond new (seen_as a s.picture) s.picture)) (seen_again a s.picture new)
      ∙ cond_or new new' (seen_as a s.picture) s.picture;
}

ends : (w : Whole) (a : Start) (s : State) (l : List Call) → OpenedAs by_value w s → (s.picture.seen ≡ true → s.picture.start ≡ a) → Taken by_value w s l → StartsHave a l
    → Ends w a s l
unfolding run covered started RefusalKeeps
ends w a s [] o u t v = record {
  all_accepted = tt;
  grown = record { image_long = refl; marks_long = refl; image_at = λ i. refl; marks_at = λ i. refl; picture_is = refl };
}
ends w a s (fragment packet ∷ l) o u t v =
    let g = one_grown w s a o u packet t.0 v.0 in
    let s' = next s packet in
    let r = ends w a s' l (still_opened w a s (covers packet) (is_start packet) s' g o) (still_agreeing w a s (covers packet) (is_start packet) s' g u) t.1 v.1 in
    record {
      all_accepted = (is_accepted_lem w s a o u packet t.0 v.0, r.all_accepted);
      grown = more_grown w a s s' (run by_value s' l) (covers packet) (covered l) (is_start packet) (started l) g r.grown;
    }
ends w a s (other packet ∷ l) o u t v =
    let e : s ≡ next s packet = sym (refusal_keeps s packet t.0) in
    let r = ends w a s l o u (subst (λ (x : State). Taken by_value w x l) (sym e) t.1) v in
    record {
      all_accepted = subst (λ (x : State). AllAccepted by_value x l) e r.all_accepted;
      grown = subst (λ (x : State). Grown w a s (covered l) (started l) (run by_value x l)) e r.grown;
    }

-- Two lists with the same of these fragments.

both_ways : (x y : Bool) → (x ≡ true → y ≡ true) → (y ≡ true → x ≡ true) → x ≡ y
both_ways true y f g = sym (f refl)
both_ways false true f g = g refl
both_ways false false f g = refl

or_left : (x y : Bool) → x ≡ true → (x || y) ≡ true
or_left x y h = rw h

or_right : (x y : Bool) → y ≡ true → (x || y) ≡ true
or_right true y h = refl
or_right false y h = h

or_cases : (x y : Bool) {P : Type 0} → (x || y) ≡ true → (x ≡ true → P) → (y ≡ true → P) → P
or_cases true y h f g = f refl
or_cases false y h f g = g h

same_covers : (packet packet' : List ℕ) (i : ℕ) → SameFragment packet packet' → covers packet i ≡ true → covers packet' i ≡ true
same_covers packet packet' i e h = rw (← e.same_offset, ← e.same_data) h

among_covers : (packet : List ℕ) (l : List Call) (i : ℕ) → Among packet l → covers packet i ≡ true → covered l i ≡ true
unfolding covered
among_covers packet [] i m h = absurd m
among_covers packet (fragment packet' ∷ l) i m h =
    ⊎_elim (λ (e : SameFragment packet packet'). or_left (covers packet' i) (covered l i) (same_covers packet packet' i e h))
    (λ n. or_right (covers packet' i) (covered l i) (among_covers packet l i n h)) m
among_covers packet (other packet' ∷ l) i m h = among_covers packet l i m h

among_starts : (packet : List ℕ) (l : List Call) → Among packet l → is_start packet ≡ true → started l ≡ true
unfolding started
among_starts packet [] m h = absurd m
among_starts packet (fragment packet' ∷ l) m h =
    ⊎_elim (λ (e : SameFragment packet packet'). or_left (is_start packet') (started l) (sym e.same_type ∙ h))
    (λ n. or_right (is_start packet') (started l) (among_starts packet l n h)) m
among_starts packet (other packet' ∷ l) m h = among_starts packet l m h

among_start : (packet : List ℕ) (l : List Call) (a : Start) → Among packet l → StartsHave a l → is_start packet ≡ true → own_fields (fragment_of packet) ≡ a
among_start packet [] a m v h = absurd m
among_start packet (fragment packet' ∷ l) a m v h =
    ⊎_elim (λ (e : SameFragment packet packet'). e.same_start ∙ v.0 (sym e.same_type ∙ h)) (λ n. among_start packet l a n v.1 h) m
among_start packet (other packet' ∷ l) a m v h = among_start packet l a m v h

within_covers : (l l' : List Call) (i : ℕ) → Within l l' → covered l i ≡ true → covered l' i ≡ true
unfolding covered
within_covers [] l' i m h = absurd (false≢true h)
within_covers (fragment packet ∷ l) l' i m h =
    or_cases (covers packet i) (covered l i) h (λ x. among_covers packet l' i m.0 x) (λ x. within_covers l l' i m.1 x)
within_covers (other packet ∷ l) l' i m h = within_covers l l' i m h

within_starts : (l l' : List Call) → Within l l' → started l ≡ true → started l' ≡ true
unfolding started
within_starts [] l' m h = absurd (false≢true h)
within_starts (fragment packet ∷ l) l' m h =
    or_cases (is_start packet) (started l) h (λ x. among_starts packet l' m.0 x) (λ x. within_starts l l' m.1 x)
within_starts (other packet ∷ l) l' m h = within_starts l l' m h

-- with a start in the first list, the start fields of both are the same
within_start : (l l' : List Call) (a a' : Start) → Within l l' → StartsHave a l → StartsHave a' l' → started l ≡ true → a ≡ a'
unfolding started
within_start [] l' a a' m v v' h = absurd (false≢true h)
within_start (fragment packet ∷ l) l' a a' m v v' h =
    or_cases (is_start packet) (started l) h (λ x. sym (v.0 x) ∙ among_start packet l' a' m.0 v' x) (λ x. within_start l l' a a' m.1 v.1 v' x)
within_start (other packet ∷ l) l' a a' m v v' h = within_start l l' a a' m v v' h

cond_start : (b : Bool) (a a' : Start) (q : Picture) → (b ≡ true → a ≡ a') → cond b (seen_as a q) q ≡ cond b (seen_as a' q) q
cond_start true a a' q h = rw (h refl)
cond_start false a a' q h = refl

module _ (w : Whole) (s : State) (l l' : List Call) (g : Given by_value w s l) (g' : Given by_value w s l') (m : Within l l') (m' : Within l' l) where
  abbrev a : Start
  a = g.agreeing.common

  abbrev a' : Start
  a' = g'.agreeing.common

  e : Grown w a s (covered l) (started l) (run by_value s l)
  e = (ends w a s l g.opened g.agreeing.seen g.taken g.agreeing.starts).grown

  e' : Grown w a' s (covered l') (started l') (run by_value s l')
  e' = (ends w a' s l' g'.opened g'.agreeing.seen g'.taken g'.agreeing.starts).grown

  same_covered : (i : ℕ) → covered l i ≡ covered l' i
  same_covered i = both_ways (covered l i) (covered l' i) (within_covers l l' i m) (within_covers l' l i m')

  same_started : started l ≡ started l'
  same_started = both_ways (started l) (started l') (within_starts l l' m) (within_starts l' l m')

  same_picture : (run by_value s l).picture ≡ (run by_value s l').picture
  same_picture =
      e.picture_is ∙ cond_start (started l) a a' s.picture (within_start l l' a a' m g.agreeing.starts g'.agreeing.starts)
      ∙ ap (λ (b : Bool). cond b (seen_as a' s.picture) s.picture) same_started ∙ sym e'.picture_is

  same_end : SameEnd by_value (run by_value s l) (run by_value s l')
  same_end = record {
    image =
        ext_get_or 0 _ _ (e.image_long ∙ sym e'.image_long)
        (λ i h. e.image_at i ∙ ap (λ (b : Bool). cond b (get_or w.image i 0) (get_or s.image i 0)) (same_covered i) ∙ sym (e'.image_at i));
    marks =
        ext_get_or 0 _ _ (e.marks_long ∙ sym e'.marks_long)
        (λ i h. e.marks_at i ∙ ap (λ (b : Bool). cond b 1 (get_or s.marks i 0)) (same_covered i) ∙ sym (e'.marks_at i));
    seen = ap (λ (q : Picture). q.seen) same_picture;
    start = ap (λ (q : Picture). q.start) same_picture;
  }

-- The completeness question.

yes_is : (x y : Bool) → ◌≡◌ {A = Result Bool Refused} (Ok (x && y)) (Ok true) → (x ≡ true) × (y ≡ true)
yes_is true true h = (refl, refl)
yes_is true false h = absurd (let z : ◌≡◌ {A = ℕ} 0 1 = cc in let no : ⊥ = omega arith in no)
yes_is false y h = absurd (let z : ◌≡◌ {A = ℕ} 0 1 = cc in let no : ⊥ = omega arith in no)

module _ (w : Whole) (s : State) (o : OpenedAs by_value w s) where
  completeness_is : completeness s.picture (length s.image) s.marks ≡ Ok (s.picture.seen && all_filled s.marks (total_of w))
  unfolding completeness
  completeness_is = simp (o.clear, o.opened, o.same_total)

  complete_yes : completeness s.picture (length s.image) s.marks ≡ Ok true
      ↔ ((s.picture.seen ≡ true) × ((i : ℕ) → i < total_of w → filled_at s.marks i ≡ true))
  complete_yes =
      let r = room_says (total_of w) (length s.image) (length s.marks) (rw (← o.same_total) (held_says s.picture (length s.image) (length s.marks) o.clear o.opened)) in (
        λ h.
            let y = yes_is s.picture.seen (all_filled s.marks (total_of w)) (sym completeness_is ∙ h) in
            (y.0, filled_all s.marks (total_of w) y.1),
        λ h. completeness_is ∙ simp (h.0, all_filled_lem s.marks (total_of w) r.1 h.1),
      )

pub demand_three : DemandThree by_value
demand_three w s l g =
    let a = g.agreeing.common in
    let r = ends w a s l g.opened g.agreeing.seen g.taken g.agreeing.starts in
    let o = still_opened w a s (covered l) (started l) (run by_value s l) r.grown g.opened in
    let n : (run by_value s l).picture.seen ≡ (started l || s.picture.seen) = ap (λ (q : Picture). q.seen) r.grown.picture_is ∙ seen_or a s.picture (started l) in
    record {
      each_accepted = r.all_accepted;
      filled = filled_is w a s (covered l) (started l) (run by_value s l) r.grown;
      whole_byte = o.agreeing;
      complete = rw (← n) (complete_yes w (run by_value s l) o);
      same = λ l' g' m. same_end w s l l' g g' m.0 m.1;
    }
