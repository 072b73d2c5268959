-- The bits of numbers.
use Rattle.std.proofs.Common.{lt_of_lt_of_le, add-one, ◌≡◌, ◌<◌, ◌≤◌, ◌+◌, ◌-◌, ◌*◌, ◌^◌, ◌∙◌, ℕ, List, [], ◌∷◌, drop, drop-cons, get_or, length, length-drop, ap, arith}
use Rattle.std.proofs.Math.Pow.{pow-add, pow_mono}
use Rattle.bech32_more_calls.specs.columns.Validity.{accepted_of, validity_bits, is_accepted}

accepted-small : (n : ℕ) → is_accepted n ≤ 1
accepted-small n = grind (arith)

-- they are as many
pub bits-small : (numbers : List ℕ) → validity_bits numbers < 2 ^ length numbers
bits-small [] = omega arith
bits-small (number ∷ numbers) =
    let size : length (number ∷ numbers) ≡ 1 + length numbers = omega arith in
    let more : validity_bits numbers < 2 ^ length numbers = bits-small numbers in
    let one : is_accepted number ≤ 1 = accepted-small number in
    let power : 2 ^ length (number ∷ numbers) ≡ 2 * 2 ^ length numbers = ap (λ (n : ℕ). 2 ^ n) size ∙ pow-add 2 1 (length numbers) in
    omega (arith, more, one, power)

-- those of at most seven
pub bits-few : (numbers : List ℕ) (i : ℕ) → 0 < i → length numbers ≤ 8 → validity_bits (drop i numbers) < 128
bits-few numbers i some few =
    let size : length (drop i numbers) ≤ 7 = omega (arith, length-drop i numbers, some, few) in
    lt_of_lt_of_le (bits-small (drop i numbers)) (pow_mono size)
