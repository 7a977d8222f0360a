-- Timestamp and SSRC are ignored, and 3 is for the first two bytes alone. Assumes nothing.
use Prim.Native.Nat.{ℕ, ◌+◌, ◌-◌, ◌≤◌, ◌<◌}
use mathlib.Core.Path.{◌≡◌, refl, sym, ap, ◌∙◌}
use mathlib.Core.Bool.{Bool, true, false, not, ◌&&◌}
use mathlib.Core.List.{List, ◌∷◌}
use mathlib.Core.Logic.{◌⊎◌, inl, inr}
use native.Mathlib.Omega.{arith}
use borrow.Author.Tests.{le-leb, le-ltb, ltb-false, eqb-false, ne_eqb, not-true}
use lib.Dec.{eqb, ltb}
use lib.ListN.{length, get_or, drop}
use lib.Seq.{get_or-take, get_or-drop, drop-drop}
use Rattle.wire.specs.Number.{number}
use Rattle.wire.specs.declared.status.Refusal.TheVariants as refusal
use Rattle.wire.specs.Checks.{Check, refuse}
use Rattle.wire.proofs.Laws.Bool.{and_false}
use Rattle.wire.proofs.Laws.Checks.{lacking, other_first, own_check}
use Rattle.wire.proofs.Laws.Number.{number_same}
use Rattle.cursor_packet.specs.Rtp.{rtp_holds}
use Rattle.cursor_packet.specs.Frame.{type_of, size_of, size_checks, frame_checks}
use Rattle.cursor_packet.specs.Position.{position_checks, position_at, read_position}
use Rattle.cursor_packet.specs.UnusedFields.{SameButUnused, PartsAlike, UnusedIgnored, FirstTwoWrong, ThreeExactly}

module _ (a b : List ℕ) (d : SameButUnused a b) where
  elsewhere : (i : ℕ) → (i < 4) ⊎ (12 ≤ i) → get_or a i 0 ≡ get_or b i 0
  elsewhere i (inl l) = sym (get_or-take 4 a i 0 l) ∙ ap (λ (s : List ℕ). get_or s i 0) d.before ∙ get_or-take 4 b i 0 l
  elsewhere i (inr l) =
      let k : ℕ = i - 12 in
      let e : 12 + k ≡ i = omega arith in
      rw (← e) (sym (get_or-drop 12 a k 0) ∙ ap (λ (s : List ℕ). get_or s k 0) d.after ∙ get_or-drop 12 b k 0)

  numbers : (n at : ℕ) → (at + n ≤ 4) ⊎ (12 ≤ at) → number n a at ≡ number n b at
  numbers n at o = number_same true n a b at at (λ k l. elsewhere (at + k) (beside k l o))
    where
      beside : (k : ℕ) → k < n → (at + n ≤ 4) ⊎ (12 ≤ at) → (at + k < 4) ⊎ (12 ≤ at + k)
      beside k l (inl e) = inl (omega arith)
      beside k l (inr e) = inr (omega arith)

  rest : (at : ℕ) → 12 ≤ at → drop at a ≡ drop at b
  rest at l =
      let k : ℕ = at - 12 in
      let e : 12 + k ≡ at = omega arith in
      rw (← e) (sym (drop-drop k 12 a) ∙ ap (drop k) d.after ∙ drop-drop k 12 b)

  holds_alike : rtp_holds a ≡ rtp_holds b
  unfolding rtp_holds
  holds_alike = simp (d.as_long, elsewhere 0 (inl (omega arith)), elsewhere 1 (inl (omega arith)))

  checks
      : (types : ℕ → Bool) (sizes : ℕ → ℕ → Bool)
      → frame_checks (types (type_of a)) (sizes (type_of a) (size_of a)) a ≡ frame_checks (types (type_of b)) (sizes (type_of b) (size_of b)) b
  unfolding frame_checks
  checks types sizes = simp (d.as_long, holds_alike, numbers 1 12 (inr (omega arith)), numbers 2 13 (inr (omega arith)))

  alike : PartsAlike a b
  alike = record { checks = checks; numbers = numbers; rest = rest }

pub unused_ignored : UnusedIgnored
unused_ignored a b d = alike a b d

-- packets of the same parts are the same position, wherever its x and y stand
module _ (a b : List ℕ) (r : PartsAlike a b) where
  pub position_checks_alike : position_checks a ≡ position_checks b
  unfolding position_checks
  position_checks_alike = r.checks (λ (t : ℕ). eqb t 1) (λ (t n : ℕ). eqb n 7)

  pub position_alike : (x y : ℕ) → 12 ≤ x → 12 ≤ y → position_at x y a ≡ position_at x y b
  unfolding position_at
  position_alike x y across down = simp (r.numbers 2 2 (inl (omega arith)), r.numbers 2 x (inr across), r.numbers 2 y (inr down))

  pub read_position_alike : read_position a ≡ read_position b
  unfolding read_position
  read_position_alike = rw (position_checks_alike, position_alike 15 17 (omega arith) (omega arith))

-- of a packet with all of its header, the first two bytes decide
module _ (p : List ℕ) (long : 15 ≤ length p) where
  judged : rtp_holds p ≡ (eqb (get_or p 0 0) 0x80 && eqb (get_or p 1 0) 0)
  unfolding rtp_holds
  judged = simp (le-leb 12 (length p) (omega arith))

  by_bytes : not (rtp_holds p) ≡ true → FirstTwoWrong p
  by_bytes n = go (eqb (get_or p 0 0) 0x80) refl (sym judged ∙ not-true (rtp_holds p) n)
    where
      go : (x : Bool) → eqb (get_or p 0 0) 0x80 ≡ x → (x && eqb (get_or p 1 0) 0) ≡ false → FirstTwoWrong p
      go true e f = inr (eqb-false (get_or p 1 0) 0 f)
      go false e f = inl (eqb-false (get_or p 0 0) 0x80 e)

  by_rule : FirstTwoWrong p → not (rtp_holds p) ≡ true
  by_rule (inl w) = rw judged (simp (ne_eqb _ _ w))
  by_rule (inr w) = rw judged (simp (ne_eqb _ _ w) (ap not (and_false (eqb (get_or p 0 0) 0x80))))

-- the checks after that of the header
module _ (taken fits : Bool) (p : List ℕ) where
  abbrev after : List Check
  after = refuse refusal.UnknownKind (not taken) ∷ size_checks fits p

  none_after : lacking 3 after ≡ true
  unfolding lacking
  none_after = refl

pub three_exactly : ThreeExactly
unfolding frame_checks
three_exactly taken fits p =
    let short = other_first 3 refl refusal.Truncated (ltb (length p) 15) (refuse refusal.WrongHeader (not (rtp_holds p)) ∷ after taken fits p) refl in
    let header = own_check 3 refl refusal.WrongHeader (not (rtp_holds p)) (after taken fits p) refl (none_after taken fits p) in (
      (λ e. let h = short.0 e in let l = ltb-false (length p) 15 h.0 in (l, by_bytes p l (header.0 h.1))),
      λ w. short.1 (le-ltb (length p) 15 w.0, header.1 (by_rule p w.0 w.1)),
    )
