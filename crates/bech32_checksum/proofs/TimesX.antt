-- A packed remainder by the generator of BIP-173, times x: linear, and so is each further power.
use Rattle.std.proofs.Common.{◌≡◌, ◌<◌, ◌+◌, ◌*◌, ◌/◌, ◌%◌, ◌^◌, ◌==◌, ℕ, get_or, refl, sym, ap, ◌∙◌, arith, bit_xor}
use Rattle.std.specs.Int.Bits.{xor_assoc, xor_disjoint, and_shifted, xor_zero_r}
use Rattle.std.proofs.lemmas.Nat.{xor_shr, xor_mod, xor_block, xor_lt, xor_comm}
use Rattle.std.proofs.lemmas.Bool.{eqb-true}
use Rattle.bech32_gf.specs.laws.Below.{each_below-at₂}
use Rattle.bech32_checksum.specs.declared.checksums.products.TheConstants.{PRODUCTS}
use Rattle.bech32_checksum.proofs.Products.{product_clear}

-- the generator's lower coefficients times an element, packed
abbrev pub multiple : ℕ → ℕ
multiple v = get_or PRODUCTS v 0

-- a row times x, modulo the generator
abbrev pub times_x : ℕ → ℕ
times_x row = bit_xor (row % 2 ^ 25 * 32) (multiple (row / 2 ^ 25))

-- a row times x^6, and times x^8, modulo the generator
abbrev pub times_x6 : ℕ → ℕ
times_x6 row = times_x (times_x (times_x (times_x (times_x (times_x row)))))

abbrev pub times_x8 : ℕ → ℕ
times_x8 row = times_x6 (times_x (times_x row))

multiple_add : (u v : ℕ) → u < 32 → v < 32 → multiple (bit_xor u v) ≡ bit_xor (multiple u) (multiple v)
multiple_add u v hu hv =
    eqb-true _ _ (each_below-at₂ 32 (λ i j. multiple (bit_xor i j) == bit_xor (multiple i) (multiple j)) refl u v hu hv)

pub multiple_lt : (v : ℕ) → v < 32 → multiple v < 2 ^ 30
multiple_lt v h = product_clear v h

swap : (p q r s : ℕ) → bit_xor (bit_xor p q) (bit_xor r s) ≡ bit_xor (bit_xor p r) (bit_xor q s)
swap p q r s =
    xor_assoc p q (bit_xor r s)
    ∙ (ap (bit_xor p) (sym (xor_assoc q r s) ∙ (ap (λ m. bit_xor m s) (xor_comm q r) ∙ xor_assoc r q s))
    ∙ sym (xor_assoc p r (bit_xor q s)))

shl : (a b : ℕ) → bit_xor (a * 32) (b * 32) ≡ bit_xor a b * 32
shl a b =
    let h = xor_block 5 a b 0 0 (omega arith) (omega arith) in
    let e : a * 2 ^ 5 + 0 ≡ a * 32 = omega arith in
    let f : b * 2 ^ 5 + 0 ≡ b * 32 = omega arith in
    let g : bit_xor a b * 2 ^ 5 + bit_xor 0 0 ≡ bit_xor a b * 32 = omega arith in
    ap (λ m. bit_xor m (b * 32)) (sym e) ∙ (ap (λ m. bit_xor (a * 2 ^ 5 + 0) m) (sym f) ∙ (h ∙ g))

-- an element in the lowest place
pub joined : (m e : ℕ) → e < 32 → m * 32 + e ≡ bit_xor (m * 32) e
joined m e h = sym (xor_disjoint (m * 2 ^ 5) e (and_shifted m 5 e h))

pub times_x-add : (a b : ℕ) → a < 2 ^ 30 → b < 2 ^ 30 → times_x (bit_xor a b) ≡ bit_xor (times_x a) (times_x b)
times_x-add a b ha hb =
    let low : bit_xor a b % 2 ^ 25 * 32 ≡ bit_xor (a % 2 ^ 25 * 32) (b % 2 ^ 25 * 32) =
    ap (λ m. m * 32) (xor_mod a b 25) ∙ sym (shl (a % 2 ^ 25) (b % 2 ^ 25)) in
    let high : multiple (bit_xor a b / 2 ^ 25) ≡ bit_xor (multiple (a / 2 ^ 25)) (multiple (b / 2 ^ 25)) =
    ap multiple (xor_shr a b 25) ∙ multiple_add (a / 2 ^ 25) (b / 2 ^ 25) (omega arith) (omega arith) in
    ap (λ m. bit_xor m (multiple (bit_xor a b / 2 ^ 25))) low
    ∙ (ap (λ m. bit_xor (bit_xor (a % 2 ^ 25 * 32) (b % 2 ^ 25 * 32)) m) high
    ∙ swap (a % 2 ^ 25 * 32) (b % 2 ^ 25 * 32) (multiple (a / 2 ^ 25)) (multiple (b / 2 ^ 25)))

pub times_x-lt : (a : ℕ) → a < 2 ^ 30 → times_x a < 2 ^ 30
times_x-lt a ha =
    let low : a % 2 ^ 25 * 32 < 2 ^ 30 = omega arith in
    xor_lt 30 _ _ low (multiple_lt (a / 2 ^ 25) (omega arith))

-- of a row with no highest coefficient nothing falls out
pub times_x-short : (a : ℕ) → a < 2 ^ 25 → times_x a ≡ a * 32
times_x-short a h =
    let low : a % 2 ^ 25 ≡ a = omega arith in
    let none : a / 2 ^ 25 ≡ 0 = omega arith in
    ap (λ m. bit_xor (m * 32) (multiple (a / 2 ^ 25))) low ∙ (ap (λ m. bit_xor (a * 32) (multiple m)) none ∙ xor_zero_r (a * 32))

pub times_x6-lt : (a : ℕ) → a < 2 ^ 30 → times_x6 a < 2 ^ 30
times_x6-lt a h = times_x-lt _ (times_x-lt _ (times_x-lt _ (times_x-lt _ (times_x-lt _ (times_x-lt a h)))))

pub times_x6-add : (a b : ℕ) → a < 2 ^ 30 → b < 2 ^ 30 → times_x6 (bit_xor a b) ≡ bit_xor (times_x6 a) (times_x6 b)
times_x6-add a b ha hb =
    let a1 = times_x-lt a ha in
    let a2 = times_x-lt _ a1 in
    let a3 = times_x-lt _ a2 in
    let a4 = times_x-lt _ a3 in
    let a5 = times_x-lt _ a4 in
    let b1 = times_x-lt b hb in
    let b2 = times_x-lt _ b1 in
    let b3 = times_x-lt _ b2 in
    let b4 = times_x-lt _ b3 in
    let b5 = times_x-lt _ b4 in
    let s1 = times_x-add a b ha hb in
    let s2 = ap times_x s1 ∙ times_x-add _ _ a1 b1 in
    let s3 = ap times_x s2 ∙ times_x-add _ _ a2 b2 in
    let s4 = ap times_x s3 ∙ times_x-add _ _ a3 b3 in
    let s5 = ap times_x s4 ∙ times_x-add _ _ a4 b4 in
    ap times_x s5 ∙ times_x-add _ _ a5 b5

pub times_x8-lt : (a : ℕ) → a < 2 ^ 30 → times_x8 a < 2 ^ 30
times_x8-lt a h = times_x6-lt _ (times_x-lt _ (times_x-lt a h))

pub times_x8-add : (a b : ℕ) → a < 2 ^ 30 → b < 2 ^ 30 → times_x8 (bit_xor a b) ≡ bit_xor (times_x8 a) (times_x8 b)
times_x8-add a b ha hb =
    let a1 = times_x-lt a ha in
    let a2 = times_x-lt _ a1 in
    let b1 = times_x-lt b hb in
    let b2 = times_x-lt _ b1 in
    let s1 = times_x-add a b ha hb in
    let s2 = ap times_x s1 ∙ times_x-add _ _ a1 b1 in
    ap times_x6 s2 ∙ times_x6-add _ _ a2 b2
