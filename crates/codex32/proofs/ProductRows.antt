-- The products with the generators of codex32, computed over all elements.
use Rattle.std.specs.Prelude.{nat_lt}
use Rattle.std.proofs.Common.{◌≡◌, ◌<◌, ◌*◌, ◌/◌, ◌%◌, ◌^◌, ◌==◌, ℕ, get_or, refl}
use Rattle.std.proofs.lemmas.Bool.{eqb-true, ltb-true}
use Rattle.bech32_gf.specs.laws.Below.{each_below, each_below-at}
use Rattle.bech32_gf.specs.declared.gf32.Fe32.{Fe32}
use Rattle.bech32_gf.specs.Gf32.{product}
use Rattle.bech32_gf.specs.Fe32 as fe32
use Rattle.bech32_poly.specs.Polynomial.{scale}
use Rattle.bech32_checksum.specs.Packed.{digit_of, sum_of_words, IsRowOf}
use Rattle.bech32_checksum.proofs.Products.{tabulated}
use Rattle.codex32.specs.Code.{codex32, long_codex32}
use Rattle.codex32.specs.laws.CodeLaws.{words}
use Rattle.codex32.specs.laws.LongCodeLaws.{long_words}

-- the sums of words
abbrev sum : ℕ → ℕ
sum v = sum_of_words (λ i. get_or words i 0) 5 v

abbrev long_sum : ℕ → ℕ
long_sum v = sum_of_words (λ i. get_or long_words i 0) 5 v

-- the coefficients of the generators
abbrev at : ℕ → Fe32
at n = get_or codex32.generator n fe32.zero

abbrev long_at : ℕ → Fe32
long_at n = get_or long_codex32.generator n fe32.zero

value_at : (v n : ℕ) → v < 32 → n < 13 → sum v / 2 ^ (5 * n) % 32 ≡ product v (at n).value
unfolding product
value_at v n hv hn =
    eqb-true _ _
    (each_below-at 13 (λ n. sum v / 2 ^ (5 * n) % 32 == product v (at n).value)
    (each_below-at 32 (λ v. each_below 13 (λ n. sum v / 2 ^ (5 * n) % 32 == product v (at n).value)) refl v hv) n hn)

long_value_at : (v n : ℕ) → v < 32 → n < 15 → long_sum v / 2 ^ (5 * n) % 32 ≡ product v (long_at n).value
unfolding product
long_value_at v n hv hn =
    eqb-true _ _
    (each_below-at 15 (λ n. long_sum v / 2 ^ (5 * n) % 32 == product v (long_at n).value)
    (each_below-at 32 (λ v. each_below 15 (λ n. long_sum v / 2 ^ (5 * n) % 32 == product v (long_at n).value)) refl v hv) n hn)

pub row : (e : Fe32) → IsRowOf 13 (scale fe32.ops e codex32.generator) (sum e.value)
row e = record {
  elements_are = tabulated 13 (digit_of (sum e.value)) (λ n. fe32.mul e (at n)) (λ n below. fe32.path _ _ (value_at e.value n e.in_field below));
  clear = ltb-true _ _ (each_below-at 32 (λ v. nat_lt (sum v) (2 ^ (5 * 13))) refl e.value e.in_field);
}

pub long_row : (e : Fe32) → IsRowOf 15 (scale fe32.ops e long_codex32.generator) (long_sum e.value)
long_row e = record {
  elements_are = tabulated 15 (digit_of (long_sum e.value)) (λ n. fe32.mul e (long_at n)) (λ n below. fe32.path _ _ (long_value_at e.value n e.in_field below));
  clear = ltb-true _ _ (each_below-at 32 (λ v. nat_lt (long_sum v) (2 ^ (5 * 15))) refl e.value e.in_field);
}
