-- Shifts of a row that is packed into an integer of w bits.
use Rattle.std.proofs.Common.{◌≡◌, ◌<◌, ◌≤◌, ◌+◌, ◌-◌, ◌*◌, ◌/◌, ◌%◌, ◌^◌, ℕ, zero, suc, arith, bit_and, refl}
use Rattle.std.proofs.lemmas.Nat.{and_mask}
use Rattle.std.proofs.Math.Nat.{mod-eq_of_lt}
use Rattle.std.proofs.Math.Pow.{pow_mono, pow-add, pow_pos}
use Rattle.bech32_checksum.specs.Packed.{digit_of}
use Rattle.bech32_checksum.proofs.Digits.{highest, shifted-lt}

pub highest_at : (a d : ℕ) → 0 < d → a < 2 ^ (5 * d) → a / 2 ^ (5 * (d - 1)) ≡ (digit_of a (d - 1)).value
highest_at a zero h s = absurd (omega arith)
highest_at a (suc c) h s =
    let less : suc c - 1 ≡ c = omega arith in
    rw less (highest a c s)

-- the mask of the lowest c places
mask : (w c : ℕ) → 5 * suc c ≤ w → 1 * 2 ^ (c * 5) % 2 ^ w ≡ 2 ^ (5 * c)
mask w c s =
    let place : c * 5 ≡ 5 * c = omega arith in
    let above : 5 * c + 1 ≤ w = omega arith in
    let twice : 2 ^ (5 * c + 1) ≡ 2 ^ (5 * c) * 2 = pow-add 2 (5 * c) 1 in
    let room : 2 ^ (5 * c + 1) ≤ 2 ^ w = pow_mono above in
    let some : 0 < 2 ^ (5 * c) = pow_pos (5 * c) in
    let one : 1 * 2 ^ (c * 5) ≡ 2 ^ (5 * c) = rw place (omega arith) in
    rw one (mod-eq_of_lt (omega arith))

-- the places below the highest of d, moved up by one, and e in the lowest place
pub shifted : (w a d e : ℕ) → 0 < d → 5 * d ≤ w
    → bit_and a (1 * 2 ^ ((d - 1) * 5) % 2 ^ w - 1) * 32 % 2 ^ w + e ≡ a % 2 ^ (5 * (d - 1)) * 32 + e
shifted w a zero e h s = absurd (omega arith)
shifted w a (suc c) e h s =
    let less : suc c - 1 ≡ c = omega arith in
    let zero_fits : 0 < 32 = omega arith in
    let room : 2 ^ (5 * suc c) ≤ 2 ^ w = pow_mono s in
    let low : a % 2 ^ (5 * c) * 32 + 0 < 2 ^ (5 * suc c) = shifted-lt a c 0 zero_fits in
    let small : a % 2 ^ (5 * c) * 32 < 2 ^ w = omega arith in
    rw (less, mask w c s, and_mask a (5 * c), mod-eq_of_lt small) refl
