use Rattle.std.proofs.Common.{◌≡◌, ◌<◌, ◌+◌, ◌*◌, ◌/◌, ◌%◌, ◌^◌, ◌∙◌, ◌||◌, ℕ, true, bit_and, bit_or, get_or, eqb, refl}
use mathlib.Core.Bool.{not}
use Rattle.std.proofs.lemmas.Bool.{eqb-true}
use Rattle.bech32_gf.specs.Alphabet.{is_of_alphabet, value_of}
use Rattle.bech32_gf.specs.Fe32.{element_of, mul, path}
use Rattle.bech32_gf.specs.Gf32.{product}
use Rattle.bech32_gf.specs.laws.Below.{each_below, each_below-at}
use Rattle.bech32_gf.proofs.Characters.{below-from_alphabet}
use Rattle.codex32_steady.proofs.Chosen.{second}
use Rattle.codex32_steady.specs.declared.products.TheConstants.{PRODUCT_BITS}
use Rattle.codex32_steady.proofs.multiple_of_character.Goals as goal

-- from the bit of a row on, of the product with the value of a key
abbrev bits : ℕ → ℕ → ℕ
bits entry k = get_or PRODUCT_BITS entry 0 / 2 ^ k % 4

abbrev by_bits : ℕ → ℕ → ℕ
by_bits a k = bits (a * 5) k + bits (a * 5 + 1) k * 2 + bits (a * 5 + 2) k * 4 + (bits (a * 5 + 3) k + bits (a * 5 + 4) k * 2) * 8

abbrev key : ℕ → ℕ
key c = bit_or (bit_and c 31) (bit_and (c / 2) 32)

each : (a c : ℕ) → a < 32 → c < 128 → (not (is_of_alphabet c) || eqb (by_bits a (key c) % 32) (product a (value_of c))) ≡ true
unfolding is_of_alphabet value_of product
each a c ha hc =
    each_below-at 128 (λ c. not (is_of_alphabet c) || eqb (by_bits a (key c) % 32) (product a (value_of c)))
    (each_below-at 32 (λ a. each_below 128 (λ c. not (is_of_alphabet c) || eqb (by_bits a (key c) % 32) (product a (value_of c)))) refl a ha) c hc

products : (a c : ℕ) → a < 32 → is_of_alphabet c ≡ true → by_bits a (key c) % 32 ≡ product a (value_of c)
products a c ha h = eqb-true _ _ (second (is_of_alphabet c) _ (each a c ha (below-from_alphabet c h)) h)

pub returns : goal.returns
returns c =
    c.from_low_bits.ensures
    ∙ path _ (mul c.args.a (element_of c.args.c))
    (rw (c.two_bits_of.ensures, c.two_bits_of-2.ensures, c.two_bits_of-3.ensures, c.two_bits_of-4.ensures, c.two_bits_of-5.ensures, c.key_of-key.ensures.value, c.to_u8.ensures)
    (products c.args.a.value c.args.c c.args.a.in_field c.requires))
