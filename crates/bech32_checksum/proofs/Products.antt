-- The table of products with the generator of BIP-173, computed over all elements.
use Rattle.std.specs.Prelude.{nat_lt}
use Rattle.std.proofs.Common.{◌≡◌, ◌<◌, ◌*◌, ◌/◌, ◌%◌, ◌^◌, ◌==◌, ℕ, zero, suc, get_or, refl, arith}
use Rattle.std.proofs.lemmas.Bool.{eqb-true, ltb-true}
use Rattle.bech32_gf.specs.laws.Below.{each_below, each_below-at}
use Rattle.bech32_gf.specs.declared.gf32.Fe32.{Fe32}
use Rattle.bech32_gf.specs.Gf32.{product}
use Rattle.bech32_gf.specs.Fe32 as fe32
use Rattle.bech32_poly.specs.Polynomial.{scale}
use Rattle.bech32_poly.proofs.Lists.{same_cons}
use Rattle.bech32_checksum.specs.Code.{bech32}
use Rattle.bech32_checksum.specs.Packed.{digit_of, digits, sum_of_words, tabulate}
use Rattle.bech32_checksum.specs.laws.CodeLaws.{words}
use Rattle.bech32_checksum.specs.declared.checksums.products.TheConstants.{PRODUCTS}

-- the coefficient of the generator at a place
abbrev at : ℕ → Fe32
at n = get_or bech32.generator n fe32.zero

value_at : (v n : ℕ) → v < 32 → n < 6 → get_or PRODUCTS v 0 / 2 ^ (5 * n) % 32 ≡ product v (at n).value
unfolding product
value_at v n hv hn =
    eqb-true _ _
    (each_below-at 6 (λ n. get_or PRODUCTS v 0 / 2 ^ (5 * n) % 32 == product v (at n).value)
    (each_below-at 32 (λ v. each_below 6 (λ n. get_or PRODUCTS v 0 / 2 ^ (5 * n) % 32 == product v (at n).value)) refl v hv) n hn)

pub tabulated : (c : ℕ) (f h : ℕ → Fe32) → ((n : ℕ) → n < c → f n ≡ h n) → tabulate c f ≡ tabulate c h
tabulated zero f h each = refl
tabulated (suc c) f h each =
    same_cons _ _ _ _ (each 0 (omega arith)) (tabulated c (λ i. f (suc i)) (λ i. h (suc i)) (λ n below. each (suc n) (omega arith)))

pub product_is : (e : Fe32) → digits 6 (get_or PRODUCTS e.value 0) ≡ scale fe32.ops e bech32.generator
product_is e =
    tabulated 6 (digit_of (get_or PRODUCTS e.value 0)) (λ n. fe32.mul e (at n))
    (λ n below. fe32.path _ _ (value_at e.value n e.in_field below))

pub product_clear : (v : ℕ) → v < 32 → get_or PRODUCTS v 0 < 2 ^ (5 * 6)
product_clear v hv = ltb-true _ _ (each_below-at 32 (λ v. nat_lt (get_or PRODUCTS v 0) (2 ^ (5 * 6))) refl v hv)

-- each product is the sum of the words at the set bits
pub product_sum : (v : ℕ) → v < 32 → get_or PRODUCTS v 0 ≡ sum_of_words (λ i. get_or words i 0) 5 v
product_sum v hv = eqb-true _ _ (each_below-at 32 (λ v. get_or PRODUCTS v 0 == sum_of_words (λ i. get_or words i 0) 5 v) refl v hv)
