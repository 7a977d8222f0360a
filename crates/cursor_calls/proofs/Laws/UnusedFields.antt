-- 02 §2 for the calls that hosts make, by those by value. Assumes nothing.
use Prim.Native.Nat.{ℕ}
use mathlib.Core.Path.{◌≡◌, refl}
use mathlib.Core.Bool.{Bool, true, false, cond, false≢true}
use mathlib.Core.List.{List}
use mathlib.Core.Logic.Iff
use mathlib.Core.Logic.{◌↔◌}
use borrow.Author.Tests.{leb-true, le-leb}
use lib.Dec.{leb}
use lib.ListN.{length}
use Rattle.std.specs.Prelude.{Result, Ok, Err}
use Rattle.wire.specs.declared.status.Refused.{Refused}
use Rattle.wire.proofs.Laws.Bool.{impossible}
use Rattle.cursor_packet.specs.UnusedFields.{WrongRtp}
use Rattle.cursor_packet.proofs.Laws.UnusedFields.{unused_ignored}
use Rattle.cursor_pointer.proofs.Laws.UnusedFields.{positioned_alike, three_at_position}
use Rattle.cursor_store.specs.declared.storing.Stored.{Stored}
use Rattle.cursor_store.proofs.Laws.UnusedFields.{moves_alike, stored_alike, three_at_store}
use Rattle.cursor_layout.specs.PointerLayout.{pointer_length, pointer_of}
use Rattle.cursor_layout.specs.PictureLayout.{picture_of}
use Rattle.cursor_calls.specs.CursorCalls.{cursor_position, records_whole, pointer_left, store_answered, cursor_store}
use Rattle.cursor_calls.proofs.Laws.CursorCalls.{position_number, store_number}
use Rattle.cursor_calls.specs.UnusedFields.{PositionUnusedIgnored, StoreUnusedIgnored, PositionThreeExactly, StoreThreeExactly}

pub position_unused_ignored : PositionUnusedIgnored
unfolding cursor_position
position_unused_ignored ps a b d = rw (positioned_alike (pointer_of ps) a b (unused_ignored a b d))

pub store_unused_ignored : StoreUnusedIgnored
unfolding cursor_store pointer_left
store_unused_ignored ps qs a b image marks d =
    let r = unused_ignored a b d in
    let left : (x : Result Stored Refused) (bytes filled : List ℕ) → store_answered a x ps qs bytes filled ≡ store_answered b x ps qs bytes filled
    = λ x bytes filled. elim x as (λ (y : Result Stored Refused). store_answered a y ps qs bytes filled ≡ store_answered b y ps qs bytes filled) [
      | Ok y ↦ rw (moves_alike a b r (pointer_of ps))
      | Err y ↦ refl
    ] in
    rw (stored_alike a b r (pointer_of ps) (picture_of qs) image marks) (rw (left _ _ _))

-- a number is 3 exactly if the records are whole and the checks give it: 10 is for a short one
given_exactly : (whole : Bool) (n : ℕ) (C : Type 0) → ((n ≡ 3) ↔ C) → (cond whole n 10 ≡ 3) ↔ ((whole ≡ true) × C)
given_exactly true n C g = (λ e. (refl, g.0 e), λ h. g.1 h.1)
given_exactly false n C g = (λ e. impossible (cc), λ h. absurd (false≢true h.0))

pub position_three_exactly : PositionThreeExactly
position_three_exactly ps packet =
    Iff.trans (rw (position_number ps packet) (given_exactly (leb pointer_length (length ps)) _ (WrongRtp packet) (three_at_position (pointer_of ps) packet)))
    (Iff.and (leb-true pointer_length (length ps), le-leb pointer_length (length ps)) Iff.rfl)

pub store_three_exactly : StoreThreeExactly
store_three_exactly ps qs packet image marks =
    rw (store_number ps qs packet image marks)
    (given_exactly (records_whole (length ps) (length qs)) _ _ (three_at_store (picture_of qs) packet image marks))
