-- Small examples of this crate's definitions, those of 01, "Proved table of small examples", among them. Each is computed.
use Rattle.std.specs.Prelude.{◌≡◌, ℕ, Ok, Err, zero, suc, ◌+◌, ◌%◌, ◌^◌, ◌<◌, ◌≤◌, true, false, not, ◌&&◌, List, [], ◌∷◌, length, take, drop, pos, negsuc, ◌≢◌, refl}
use Rattle.std.proofs.Common.{arith}
use Rattle.wire.specs.Splice.{splice}
use Rattle.wire.specs.LittleEndian as little
use Rattle.wire.specs.Number.{number_in, bytes_in, written_in, number, written, Bytes}
use Rattle.wire.specs.Signed.{signed, unsigned}
use Rattle.wire.specs.Sequence.{distance, is_newer}
use Rattle.wire.specs.declared.status.Refusal.TheVariants as refusal
use Rattle.wire.specs.Status.{refused_at}
use Rattle.wire.specs.Numbered.{numbered}

-- P7: last 65,535, new 0: newer
pub p7 : is_newer true 65535 0 ≡ true
unfolding is_newer distance
p7 = refl

-- P8: last 0: 32,767 newer, 32,768 and 0 not
pub p8 : (is_newer true 0 32767 && (not (is_newer true 0 32768) && not (is_newer true 0 0))) ≡ true
unfolding is_newer distance
p8 = refl

-- where there is no last, everything is newer
pub no_last : (is_newer false 0 0 && is_newer false 5 32773) ≡ true
unfolding is_newer
no_last = refl

-- an answer that accepts has the number 0; a refusal has its own, and its place
pub accepted_number : numbered {A = ℕ} (Ok 7) ≡ record { number = 0; place = 0 }
accepted_number = refl

pub refusal_numbers
    : (numbered {A = ℕ} (Err (refused_at refusal.ImageNotHeld 0)) ≡ record { number = 17; place = 0 })
    × (numbered {A = ℕ} (Err (refused_at refusal.TlvLength 12)) ≡ record { number = 6; place = 12 })
refusal_numbers = (refl, refl)

-- 1C 44 is 7,236, the most significant byte first; past the end a byte counts as 0
pub port : number 2 (0x1c ∷ 0x44 ∷ []) 0 ≡ 7236
unfolding number_in
port = refl

pub past_the_end : number 2 (0x1c ∷ 0x44 ∷ []) 1 ≡ 17408
unfolding number_in
past_the_end = refl

pub port_written : written 2 7236 1 (9 ∷ 9 ∷ 9 ∷ 9 ∷ []) ≡ 9 ∷ 0x1c ∷ 0x44 ∷ 9 ∷ []
unfolding written_in bytes_in splice
port_written = refl

pub no_place : written 2 7236 3 (9 ∷ 9 ∷ 9 ∷ 9 ∷ []) ≡ 9 ∷ 9 ∷ 9 ∷ 9 ∷ []
unfolding written_in bytes_in splice
no_place = refl

-- the same number the least significant byte first
pub little_bytes : little.bytes 2 7236 ≡ 0x44 ∷ 0x1c ∷ []
unfolding bytes_in
little_bytes = refl

pub little_total : little.bytes 4 0x00040000 ≡ 0x00 ∷ 0x00 ∷ 0x04 ∷ 0x00 ∷ []
unfolding bytes_in
little_total = refl

pub little_port : little.number_at 2 (9 ∷ 0x44 ∷ 0x1c ∷ []) 1 ≡ 7236
unfolding little.number_at number_in
little_port = refl

-- where its bytes are not all there, the number is 0
pub little_past_the_end : little.number_at 2 (0x44 ∷ 0x1c ∷ []) 1 ≡ 0
unfolding little.number_at
little_past_the_end = refl

pub little_written : little.written 2 7236 1 (9 ∷ 9 ∷ 9 ∷ 9 ∷ []) ≡ 9 ∷ 0x44 ∷ 0x1c ∷ 9 ∷ []
unfolding written_in bytes_in splice
little_written = refl

pub little_no_place : little.written 2 7236 3 (9 ∷ 9 ∷ 9 ∷ 9 ∷ []) ≡ 9 ∷ 9 ∷ 9 ∷ 9 ∷ []
unfolding written_in bytes_in splice
little_no_place = refl

-- FF FE is −2 (`negsuc 1`), and FF FF FF FF is −1
pub minus_two : signed 2 0xfffe ≡ negsuc 1
unfolding signed
minus_two = refl

pub minus_one : signed 4 0xffffffff ≡ negsuc 0
unfolding signed
minus_one = refl

pub least : signed 2 0x8000 ≡ negsuc 32767
unfolding signed
least = refl

pub greatest : signed 2 0x7fff ≡ pos 32767
unfolding signed
greatest = refl

pub minus_two_bits : unsigned 2 (negsuc 1) ≡ 0xfffe
unfolding unsigned
minus_two_bits = refl

-- The premises of the theorems are met.

-- NeverItself: the last sequence number before 0
pub never_itself : (65535 < 65536) × (is_newer true 65535 65535 ≡ false)
unfolding is_newer distance
never_itself = (omega arith, refl)

-- OneWay: 3 is newer than 65,530, and not the other way
pub one_way : (65530 < 65536) × (3 < 65536) × (is_newer true 65530 3 ≡ true) × (is_newer true 3 65530 ≡ false)
unfolding is_newer distance
one_way = (omega arith, omega arith, refl, refl)

-- OtherWay: 65,530 is not newer than 3, from which it differs, but not by half of the range; so 3 is newer
pub other_way
    : (3 < 65536) × (65530 < 65536) × (◌≡◌ {A = ℕ} 3 65530 → ⊥) × (distance 3 65530 ≢ 32768) × (is_newer true 3 65530 ≡ false)
    × (is_newer true 65530 3 ≡ true)
unfolding is_newer distance
other_way = (omega arith, omega arith, λ e. omega arith, λ e. omega arith, refl, refl)

-- ShiftSame: 65,535 is newer than 65,529, and both moved by 1, 0 is newer than 65,530
pub shift_same
    : (65529 < 65536) × (65535 < 65536) × (is_newer true ((65529 + 1) % 65536) ((65535 + 1) % 65536) ≡ true) × (is_newer true 65529 65535 ≡ true)
unfolding is_newer distance
shift_same = (omega arith, omega arith, refl, refl)

-- SignedBack: FF FE
pub signed_back : (0xfffe < 256 ^ 2) × (unsigned 2 (signed 2 0xfffe) ≡ 0xfffe)
unfolding signed unsigned
signed_back = (omega arith, refl)

abbrev four : List ℕ
four = 9 ∷ 0x1c ∷ 0x44 ∷ 9 ∷ []

-- AllThere: the two bytes in the middle of four
pub all_there : (1 + 2 ≤ length four) × (little.number_at 2 four 1 ≡ 17436) × (number_in false 2 four 1 ≡ 17436)
unfolding little.number_at number_in
all_there = (omega arith, refl, refl)

-- ReadsBack: 7,236 written there, in either order
pub reads_back
    : (1 + 2 ≤ length four) × (7236 < 256 ^ 2) × (number_in true 2 (written_in true 2 7236 1 four) 1 ≡ 7236)
    × (number_in false 2 (written_in false 2 7236 1 four) 1 ≡ 7236)
unfolding number_in written_in bytes_in splice
reads_back = (omega arith, omega arith, refl, refl)

-- WritesBack: what is read there, in either order
pub writes_back
    : (1 + 2 ≤ length four) × Bytes four × (bytes_in true 2 (number_in true 2 four 1) ≡ take 2 (drop 1 four))
    × (bytes_in false 2 (number_in false 2 four 1) ≡ take 2 (drop 1 four))
unfolding number_in bytes_in
writes_back = (omega arith, small, refl, refl)
  where
    small : Bytes four
    small zero = omega arith
    small (suc zero) = omega arith
    small (suc (suc zero)) = omega arith
    small (suc (suc (suc zero))) = omega arith
    small (suc (suc (suc (suc k)))) = omega arith
