-- The product and the quotient by logarithms, computed over all values.
use Rattle.std.proofs.Common.{◌≡◌, ◌≢◌, ◌<◌, ◌+◌, ◌-◌, ◌%◌, ℕ, zero, suc, ◌==◌, get_or, refl, arith}
use Rattle.std.proofs.lemmas.Bool.{eqb-true, ltb-true}
use Rattle.std.specs.Prelude.{nat_lt}
use Rattle.bech32_gf.specs.Gf32.{product, product_of, inverse}
use Rattle.bech32_gf.specs.laws.Below.{each_below-at, each_below-at₂}
use Rattle.bech32_gf.specs.declared.gf32.TheConstants.{LOG, POWERS}

-- the product by logarithms
abbrev by_logs : ℕ → ℕ → ℕ
by_logs a b = get_or POWERS ((get_or LOG a 0 + get_or LOG b 0) % 31) 0

pub product_by_logs : (a b : ℕ) → a < 32 → b < 32 → a ≢ 0 → b ≢ 0 → by_logs a b ≡ product a b
unfolding product
product_by_logs zero b ha hb na nb = absurd (omega arith)
product_by_logs (suc m) zero ha hb na nb = absurd (omega arith)
product_by_logs (suc m) (suc n) ha hb na nb =
    eqb-true _ _ (each_below-at₂ 31 (λ m n. by_logs (suc m) (suc n) == product (suc m) (suc n)) refl m n (omega arith) (omega arith))

pub LOG-lt : (a : ℕ) → a < 32 → get_or LOG a 0 < 31
LOG-lt a ha = ltb-true _ _ (each_below-at 32 (λ a. nat_lt (get_or LOG a 0) 31) refl a ha)

pub POWERS-lt : (k : ℕ) → k < 31 → get_or POWERS k 0 < 32
POWERS-lt k hk = ltb-true _ _ (each_below-at 31 (λ k. nat_lt (get_or POWERS k 0) 32) refl k hk)

pub zero-product : (b : ℕ) → b < 32 → 0 ≡ product 0 b
unfolding product
zero-product b hb = eqb-true _ _ (each_below-at 32 (λ b. 0 == product 0 b) refl b hb)

pub product-zero : (a : ℕ) → a < 32 → 0 ≡ product a 0
unfolding product
product-zero a ha = eqb-true _ _ (each_below-at 32 (λ a. 0 == product a 0) refl a ha)

-- the quotient by logarithms
abbrev by_log_difference : ℕ → ℕ → ℕ
by_log_difference a b = get_or POWERS ((31 + get_or LOG a 0 - get_or LOG b 0) % 31) 0

pub quotient_by_logs : (a b : ℕ) → a < 32 → b < 32 → a ≢ 0 → b ≢ 0 → by_log_difference a b ≡ product a (inverse b)
unfolding product product_of inverse
quotient_by_logs zero b ha hb na nb = absurd (omega arith)
quotient_by_logs (suc m) zero ha hb na nb = absurd (omega arith)
quotient_by_logs (suc m) (suc n) ha hb na nb =
    eqb-true _ _ (each_below-at₂ 31 (λ m n. by_log_difference (suc m) (suc n) == product (suc m) (inverse (suc n))) refl m n (omega arith) (omega arith))

-- each power is 2 times the one before it
pub POWERS-step : (i : ℕ) → i < 30 → get_or POWERS (i + 1) 0 ≡ product 2 (get_or POWERS i 0)
unfolding product
POWERS-step i hi = eqb-true _ _ (each_below-at 30 (λ i. get_or POWERS (i + 1) 0 == product 2 (get_or POWERS i 0)) refl i hi)

-- the logarithm of a power is its exponent
pub LOG-POWERS : (i : ℕ) → i < 31 → get_or LOG (get_or POWERS i 0) 0 ≡ i
LOG-POWERS i hi = eqb-true _ _ (each_below-at 31 (λ i. get_or LOG (get_or POWERS i 0) 0 == i) refl i hi)

-- the power at the logarithm of a value is the value
pub POWERS-LOG : (v : ℕ) → 0 < v → v < 32 → get_or POWERS (get_or LOG v 0) 0 ≡ v
POWERS-LOG zero some hv = absurd (omega arith)
POWERS-LOG (suc n) some hv = eqb-true _ _ (each_below-at 31 (λ n. get_or POWERS (get_or LOG (suc n) 0) 0 == suc n) refl n (omega arith))

-- 1 leaves a value as it is
pub product-one : (v : ℕ) → v < 32 → product 1 v ≡ v
unfolding product
product-one v hv = eqb-true _ _ (each_below-at 32 (λ v. product 1 v == v) refl v hv)
