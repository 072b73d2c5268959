-- A packed remainder by the generator of BIP-173, divided by x.
use Rattle.std.specs.Prelude.{nat_lt}
use Rattle.std.proofs.Common.{◌≡◌, ◌<◌, ◌+◌, ◌*◌, ◌/◌, ◌%◌, ◌^◌, ◌==◌, ℕ, suc, List, [], ◌∷◌, get_or, length, refl, sym, ap, ◌∙◌, subst, arith, bit_xor}
use Rattle.std.specs.Int.Bits.{xor_assoc, xor_disjoint, xor_zero_r, and_shifted}
use Rattle.std.proofs.lemmas.Nat.{xor_comm, xor_lt, xor_mod, xor_shr}
use Rattle.std.proofs.lemmas.Bool.{eqb-true, ltb-true}
use Rattle.std.proofs.Math.Pow.{pow-add}
use Rattle.bech32_gf.specs.Fe32 as fe32
use Rattle.bech32_gf.specs.declared.gf32.Fe32.{Fe32}
use Rattle.bech32_gf.specs.laws.Below.{each_below-at, each_below-at₂}
use Rattle.bech32_gf.specs.laws.Fe32Laws.{is_field}
use Rattle.bech32_poly.specs.Division.{remainder_of}
use Rattle.bech32_poly.specs.Remainder.{IsRemainder}
use Rattle.bech32_poly.proofs.Lists.{same_cons}
use Rattle.bech32_poly.proofs.Remainder.{remainder_exists, remainder_unique}
use Rattle.bech32_checksum.specs.Code.{bech32m}
use Rattle.bech32_checksum.specs.Packed.{digit_of, digits, sum_of_words}
use Rattle.bech32_checksum.proofs.DigitRows.{digits-injective, digits-suc}
use Rattle.bech32_checksum.proofs.EightSteps.{residue_step}
use Rattle.bech32_checksum.proofs.TimesX.{joined, multiple, times_x, times_x-add, times_x-lt, times_x-short}
use Rattle.bech32_small.specs.declared.rows.TheConstants.{DIVIDED}

-- what a constant term of a row becomes
abbrev pub divided_low : ℕ → ℕ
divided_low v = sum_of_words (λ i. get_or DIVIDED i 0) 5 v

-- a row divided by x, modulo the generator
abbrev pub divided : ℕ → ℕ
divided row = bit_xor (row / 32) (divided_low (row % 32))

low-add : (u v : ℕ) → u < 32 → v < 32 → divided_low (bit_xor u v) ≡ bit_xor (divided_low u) (divided_low v)
low-add u v hu hv =
    eqb-true _ _ (each_below-at₂ 32 (λ i j. divided_low (bit_xor i j) == bit_xor (divided_low i) (divided_low j)) refl u v hu hv)

low-lt : (v : ℕ) → v < 32 → divided_low v < 2 ^ 30
low-lt v h = ltb-true _ _ (each_below-at 32 (λ v. nat_lt (divided_low v) (2 ^ 30)) refl v h)

low-times_x : (v : ℕ) → v < 32 → times_x (divided_low v) ≡ v
low-times_x v h = eqb-true _ _ (each_below-at 32 (λ v. times_x (divided_low v) == v) refl v h)

multiple-divided : (v : ℕ) → v < 32 → divided (multiple v) ≡ v * 2 ^ 25
multiple-divided v h = eqb-true _ _ (each_below-at 32 (λ v. divided (multiple v) == v * 2 ^ 25) refl v h)

pub divided-lt : (row : ℕ) → row < 2 ^ 30 → divided row < 2 ^ 30
divided-lt row h =
    let high : row / 32 < 2 ^ 30 = omega (arith, h) in
    xor_lt 30 _ _ high (low-lt (row % 32) (omega arith))

pub times_x-divided : (row : ℕ) → row < 2 ^ 30 → times_x (divided row) ≡ row
times_x-divided row h =
    let high : row / 32 < 2 ^ 25 = omega (arith, h) in
    let wide : row / 32 < 2 ^ 30 = omega (arith, h) in
    let low : row % 32 < 32 = omega arith in
    let whole : row / 32 * 32 + row % 32 ≡ row = omega arith in
    times_x-add (row / 32) (divided_low (row % 32)) wide (low-lt (row % 32) low)
    ∙ ap (λ m. bit_xor m (times_x (divided_low (row % 32)))) (times_x-short (row / 32) high)
    ∙ ap (bit_xor (row / 32 * 32)) (low-times_x (row % 32) low)
    ∙ sym (joined (row / 32) (row % 32) low)
    ∙ whole

swap : (p q r s : ℕ) → bit_xor (bit_xor p q) (bit_xor r s) ≡ bit_xor (bit_xor p r) (bit_xor q s)
swap p q r s =
    xor_assoc p q (bit_xor r s)
    ∙ (ap (bit_xor p) (sym (xor_assoc q r s) ∙ (ap (λ m. bit_xor m s) (xor_comm q r) ∙ xor_assoc r q s))
    ∙ sym (xor_assoc p r (bit_xor q s)))

divided-add : (a b : ℕ) → divided (bit_xor a b) ≡ bit_xor (divided a) (divided b)
divided-add a b =
    ap (λ m. bit_xor m (divided_low (bit_xor a b % 32))) (xor_shr a b 5)
    ∙ ap (bit_xor (bit_xor (a / 32) (b / 32))) (ap divided_low (xor_mod a b 5) ∙ low-add (a % 32) (b % 32) (omega arith) (omega arith))
    ∙ swap (a / 32) (b / 32) (divided_low (a % 32)) (divided_low (b % 32))

divided-shifted : (m : ℕ) → divided (m * 32) ≡ m
divided-shifted m =
    let high : m * 32 / 32 ≡ m = omega arith in
    let low : m * 32 % 32 ≡ 0 = omega arith in
    ap (λ n. bit_xor n (divided_low (m * 32 % 32))) high ∙ ap (λ n. bit_xor m (divided_low n)) low ∙ xor_zero_r m

divided-times_x : (c : ℕ) → c < 2 ^ 30 → divided (times_x c) ≡ c
divided-times_x c h =
    let high : c / 2 ^ 25 < 32 = omega (arith, h) in
    let low : c % 2 ^ 25 < 2 ^ 25 = omega arith in
    let whole : c / 2 ^ 25 * 2 ^ 25 + c % 2 ^ 25 ≡ c = omega arith in
    divided-add (c % 2 ^ 25 * 32) (multiple (c / 2 ^ 25))
    ∙ ap (λ n. bit_xor n (divided (multiple (c / 2 ^ 25)))) (divided-shifted (c % 2 ^ 25))
    ∙ ap (bit_xor (c % 2 ^ 25)) (multiple-divided (c / 2 ^ 25) high)
    ∙ xor_comm (c % 2 ^ 25) (c / 2 ^ 25 * 2 ^ 25)
    ∙ xor_disjoint (c / 2 ^ 25 * 2 ^ 25) (c % 2 ^ 25) (and_shifted (c / 2 ^ 25) 25 (c % 2 ^ 25) low)
    ∙ whole

-- the number that packs a list of elements
pub packed : (l : List Fe32) → (c : ℕ) × ((c < 2 ^ (5 * length l)) × (digits (length l) c ≡ l))
packed [] = (0, (omega arith, refl))
packed (x ∷ l) =
    let (c, (small, are)) = packed l in
    let place : 5 * suc (length l) ≡ 5 + 5 * length l = omega arith in
    let power : 2 ^ (5 * suc (length l)) ≡ 32 * 2 ^ (5 * length l) = ap (λ j. 2 ^ j) place ∙ pow-add 2 5 (5 * length l) in
    let low : x.value < 32 = x.in_field in
    let less : c * 32 + x.value < 2 ^ (5 * suc (length l)) = rw power (omega (arith, small, low)) in
    let here : digit_of (c * 32 + x.value) 0 ≡ x = fe32.path _ _ (omega (arith, low)) in
    let rest : (c * 32 + x.value) / 32 ≡ c = omega (arith, low) in
    (c * 32 + x.value, (less, digits-suc (length l) (c * 32 + x.value) ∙ same_cons _ _ _ _ here (ap (digits (length l)) rest ∙ are)))

-- one element of zero more
pub one_more : (p : List Fe32) (c : ℕ) → c < 2 ^ 30 → IsRemainder fe32.ops bech32m.generator p (digits 6 c)
    → IsRemainder fe32.ops bech32m.generator (fe32.zero ∷ p) (digits 6 (times_x c))
one_more p c small h =
    let none : c % 2 ^ 25 * 32 + 0 ≡ c % 2 ^ 25 * 32 = omega arith in
    subst (λ n. IsRemainder fe32.ops bech32m.generator (fe32.zero ∷ p) (digits 6 (bit_xor n (multiple (c / 2 ^ 25))))) none
    (residue_step p c fe32.zero small h)

pub after_divided : (row : ℕ) (p : List Fe32) → row < 2 ^ 30 → IsRemainder fe32.ops bech32m.generator p (digits 6 (divided row))
    → IsRemainder fe32.ops bech32m.generator (fe32.zero ∷ p) (digits 6 row)
after_divided row p small h =
    subst (λ n. IsRemainder fe32.ops bech32m.generator (fe32.zero ∷ p) (digits 6 n)) (times_x-divided row small)
    (one_more p (divided row) (divided-lt row small) h)

pub before_divided : (row : ℕ) (p : List Fe32) → row < 2 ^ 30 → IsRemainder fe32.ops bech32m.generator (fe32.zero ∷ p) (digits 6 row)
    → IsRemainder fe32.ops bech32m.generator p (digits 6 (divided row))
before_divided row p small h =
    let r = remainder_of fe32.ops bech32m.generator p in
    let is : IsRemainder fe32.ops bech32m.generator p r = remainder_exists is_field bech32m.generator p in
    let (c, (clear, are)) = packed r in
    let low : c < 2 ^ 30 = subst (λ (n : ℕ). c < 2 ^ (5 * n)) is.short clear in
    let six : digits 6 c ≡ r = subst (λ (n : ℕ). digits n c ≡ r) is.short are in
    let of_c : IsRemainder fe32.ops bech32m.generator p (digits 6 c) = subst (IsRemainder fe32.ops bech32m.generator p) (sym six) is in
    let more = one_more p c low of_c in
    let same : digits 6 (times_x c) ≡ digits 6 row =
    remainder_unique is_field bech32m.generator (fe32.zero ∷ p) (digits 6 (times_x c)) more
    ∙ sym (remainder_unique is_field bech32m.generator (fe32.zero ∷ p) (digits 6 row) h) in
    let row_is : times_x c ≡ row = digits-injective 6 (times_x c) row (times_x-lt c low) small same in
    subst (λ n. IsRemainder fe32.ops bech32m.generator p (digits 6 n)) (sym (divided-times_x c low) ∙ ap divided row_is) of_c
