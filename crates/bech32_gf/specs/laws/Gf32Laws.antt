-- The laws of the field of 32 elements, on numbers. Each is computed over all elements.
use Rattle.std.proofs.Common.{◌≡◌, ◌≢◌, ◌<◌, ℕ, zero, suc, ◌==◌, bit_xor, refl, arith}
use Rattle.std.proofs.lemmas.Bool.{eqb-true, ltb-true}
use Rattle.std.specs.Prelude.{nat_lt}
use Rattle.bech32_gf.specs.Gf32.{product, product_of, inverse}
use Rattle.bech32_gf.specs.laws.Below.{each_below-at, each_below-at₂, each_below-at₃}

pub product-lt : (a b : ℕ) → a < 32 → b < 32 → product a b < 32
unfolding product
product-lt a b ha hb =
    ltb-true _ _ (each_below-at₂ 32 (λ a b. nat_lt (product a b) 32) refl a b ha hb)

pub product_comm : (a b : ℕ) → a < 32 → b < 32 → product a b ≡ product b a
unfolding product
product_comm a b ha hb =
    eqb-true _ _ (each_below-at₂ 32 (λ a b. product a b == product b a) refl a b ha hb)

pub product_assoc : (a b c : ℕ) → a < 32 → b < 32 → c < 32
    → product (product a b) c ≡ product a (product b c)
unfolding product
product_assoc a b c ha hb hc =
    eqb-true _ _ (each_below-at₃ 32 (λ a b c. product (product a b) c == product a (product b c))
    refl a b c ha hb hc)

pub product-xor : (a b c : ℕ) → a < 32 → b < 32 → c < 32
    → product a (bit_xor b c) ≡ bit_xor (product a b) (product a c)
unfolding product
product-xor a b c ha hb hc =
    eqb-true _ _ (each_below-at₃ 32
    (λ a b c. product a (bit_xor b c) == bit_xor (product a b) (product a c)) refl a b c ha hb hc)

pub product-one : (a : ℕ) → a < 32 → product a 1 ≡ a
unfolding product
product-one a ha = eqb-true _ _ (each_below-at 32 (λ a. product a 1 == a) refl a ha)

pub inverse-lt : (a : ℕ) → a < 32 → inverse a < 32
unfolding product product_of inverse
inverse-lt a ha = ltb-true _ _ (each_below-at 32 (λ a. nat_lt (inverse a) 32) refl a ha)

pub product-inverse : (a : ℕ) → a < 32 → a ≢ 0 → product a (inverse a) ≡ 1
unfolding product product_of inverse
product-inverse zero ha h = absurd (omega arith)
product-inverse (suc n) ha h =
    eqb-true _ _
    (each_below-at 31 (λ n. product (suc n) (inverse (suc n)) == 1) refl n (omega arith))

pub product_of-order : (a : ℕ) → a < 32 → a ≢ 0 → product_of a 31 ≡ 1
unfolding product product_of
product_of-order zero ha h = absurd (omega arith)
product_of-order (suc n) ha h =
    eqb-true _ _ (each_below-at 31 (λ n. product_of (suc n) 31 == 1) refl n (omega arith))
