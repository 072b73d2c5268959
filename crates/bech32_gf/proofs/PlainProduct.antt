-- The product by doublings, computed over all values.
use Rattle.std.proofs.Common.{◌≡◌, ◌≢◌, ◌<◌, ◌≤◌, ◌+◌, ◌*◌, ◌-◌, ◌/◌, ◌^◌, ℕ, ◌==◌, if◌then◌else◌, bit_and, bit_xor, refl, arith, eq-eqb}
use Rattle.std.proofs.lemmas.Bool.{eqb-true, ne_eqb}
use Rattle.bech32_gf.specs.Gf32.{product, reduced, shifted_sum}
use Rattle.bech32_gf.specs.laws.Below.{each_below, each_below-at, each_below-at₂}

-- the product with 2 of a value whose double has five bits
pub product-two_low : (a : ℕ) → a * 2 < 32 → a * 2 ≡ product a 2
unfolding product
product-two_low a h = eqb-true _ _ (each_below-at 16 (λ a. a * 2 == product a 2) refl a (omega arith))

from_16 : (m : ℕ) → m < 16 → bit_xor ((m + 16) * 2) 41 ≡ product (m + 16) 2
unfolding product
from_16 m h = eqb-true _ _ (each_below-at 16 (λ m. bit_xor ((m + 16) * 2) 41 == product (m + 16) 2) refl m h)

-- and of one whose double has six
pub product-two_high : (a : ℕ) → a < 32 → 32 ≤ a * 2 → bit_xor (a * 2) 41 ≡ product a 2
product-two_high a ha h =
    let e : (a - 16) + 16 ≡ a = omega arith in
    rw e at (from_16 (a - 16) (omega arith))

-- a shifted by i, reduced
unfoldable pub shifted : ℕ → ℕ → ℕ
shifted a i = reduced 5 (a * 2 ^ i)

-- the sum of a shifted by each set bit of b below i, reduced
unfoldable pub partial : ℕ → ℕ → ℕ → ℕ
partial i a b = reduced 4 (shifted_sum i a b)

pub shifted-none : (a : ℕ) → a < 32 → a ≡ shifted a 0
unfolding shifted
shifted-none a ha = eqb-true _ _ (each_below-at 32 (λ a. a == shifted a 0) refl a ha)

pub shifted-more : (a i : ℕ) → a < 32 → i < 5 → product (shifted a i) 2 ≡ shifted a (i + 1)
unfolding product shifted
shifted-more a i ha hi =
    let at_i = each_below-at 5 (λ i. each_below 32 (λ a. product (shifted a i) 2 == shifted a (i + 1))) refl i hi in
    eqb-true _ _ (each_below-at 32 (λ a. product (shifted a i) 2 == shifted a (i + 1)) at_i a ha)

pub partial-none : (a b : ℕ) → 0 ≡ partial 0 a b
unfolding partial
partial-none a b = refl

-- the step at bit i
abbrev next : ℕ → ℕ → ℕ → ℕ
next i a b = if bit_and (b / 2 ^ i) 1 == 1 then bit_xor (partial i a b) (shifted a i) else partial i a b

partial-next : (i a b : ℕ) → i < 5 → a < 32 → b < 32 → next i a b ≡ partial (i + 1) a b
unfolding shifted partial
partial-next i a b hi ha hb =
    let step = λ (i a b : ℕ). next i a b == partial (i + 1) a b in
    let at_i = each_below-at 5 (λ i. each_below 32 (λ a. each_below 32 (step i a))) refl i hi in
    eqb-true _ _ (each_below-at₂ 32 (step i) at_i a b ha hb)

pub partial-taken : (i a b : ℕ) → i < 5 → a < 32 → b < 32 → bit_and (b / 2 ^ i) 1 ≡ 1
    → bit_xor (partial i a b) (shifted a i) ≡ partial (i + 1) a b
partial-taken i a b hi ha hb set = rw (eq-eqb _ _ set) at (partial-next i a b hi ha hb)

pub partial-left : (i a b : ℕ) → i < 5 → a < 32 → b < 32 → bit_and (b / 2 ^ i) 1 ≢ 1
    → partial i a b ≡ partial (i + 1) a b
partial-left i a b hi ha hb clear = rw (ne_eqb _ _ clear) at (partial-next i a b hi ha hb)

pub partial-all : (i a b : ℕ) → 5 ≤ i → i ≤ 5 → partial i a b ≡ product a b
unfolding partial product
partial-all i a b low high = let e : i ≡ 5 = omega arith in rw e refl
