-- Packets of the same parts are the same start or continuation: so those that differ only in timestamp and SSRC are read alike. Assumes nothing.
use Prim.Native.Nat.{ℕ, ◌+◌, ◌≤◌}
use mathlib.Core.Path.{◌≡◌, ap}
use mathlib.Core.Bool.{Bool}
use mathlib.Core.List.{List}
use mathlib.Core.Logic.{inl, inr}
use native.Mathlib.Omega.{arith}
use lib.Dec.{leb, eqb}
use Rattle.wire.specs.Number.{number}
use Rattle.cursor_packet.specs.UnusedFields.{PartsAlike}
use Rattle.cursor_packet.proofs.Laws.UnusedFields.{unused_ignored, position_alike, read_position_alike}
use Rattle.cursor_fragment.specs.Fragment.{takes_type, is_start, header_length, image_data, offset_bits, is_outside, fragment_frame, fragment_checks, fragment_as, fragment_of, data_of, read_fragment}
use Rattle.cursor_fragment.specs.Start.{start_of, start_in, start_position}
use Rattle.cursor_fragment.specs.UnusedFields.{ReadAlike}

module _ (a b : List ℕ) (r : PartsAlike a b) where
  after : (n at : ℕ) → 12 ≤ at → number n a at ≡ number n b at
  after n at l = r.numbers n at (inr l)

  pub starts_alike : is_start a ≡ is_start b
  starts_alike = ap (λ (t : ℕ). eqb t 2) (after 1 12 (omega arith))

  module _ (starts : Bool) where
    data_alike : image_data starts a ≡ image_data starts b
    unfolding image_data
    data_alike = r.rest (12 + header_length starts) (omega arith)

    outside_alike : is_outside starts a ≡ is_outside starts b
    unfolding offset_bits
    outside_alike = simp (data_alike, after 4 21 (omega arith), after 4 15 (omega arith))

    fields_alike : fragment_as starts a ≡ fragment_as starts b
    unfolding fragment_as offset_bits start_in start_of
    fields_alike = simp (r.numbers 2 2 (inl (omega arith)), after 4 15 (omega arith), after 2 19 (omega arith), after 4 21 (omega arith), after 1 25 (omega arith), after 2 26 (omega arith), after 2 28 (omega arith))

  pub checks_alike : fragment_checks (is_start a) a ≡ fragment_checks (is_start b) b
  unfolding fragment_checks fragment_frame
  checks_alike = rw (r.checks takes_type (λ (t n : ℕ). leb (header_length (eqb t 2)) n), starts_alike, outside_alike (is_start b))

  pub fragment_alike : fragment_of a ≡ fragment_of b
  fragment_alike = rw starts_alike (fields_alike (is_start b))

  pub data_of_alike : data_of a ≡ data_of b
  data_of_alike = rw starts_alike (data_alike (is_start b))

  pub start_position_alike : start_position a ≡ start_position b
  start_position_alike = position_alike a b r 21 23 (omega arith) (omega arith)

  read_alike_by_parts : read_fragment a ≡ read_fragment b
  unfolding read_fragment
  read_alike_by_parts = rw (checks_alike, fragment_alike)

pub read_alike : ReadAlike
read_alike a b d =
    let r = unused_ignored a b d in
    record {
      position = read_position_alike a b r;
      fragment = read_alike_by_parts a b r;
      image_data = data_of_alike a b r;
      moves_to = start_position_alike a b r;
    }
