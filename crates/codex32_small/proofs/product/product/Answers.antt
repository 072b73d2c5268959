use Rattle.std.proofs.Common.{◌≡◌, ◌<◌, ◌*◌, ◌/◌, ◌%◌, ◌^◌, ◌∙◌, ℕ, bit_and, get_or, eqb, refl}
use Rattle.std.specs.Prelude.{bit_xor}
use Rattle.std.proofs.lemmas.Bool.{eqb-true}
use Rattle.bech32_gf.specs.Fe32.{mul, path}
use Rattle.bech32_gf.specs.Gf32 as gf32
use Rattle.bech32_gf.specs.laws.Below.{each_below, each_below-at}
use Rattle.codex32_small.specs.declared.product.TheConstants.{ROWS}
use Rattle.codex32_small.proofs.product.product.Goals as goal

abbrev chosen : ℕ → ℕ → ℕ
chosen a b = bit_and (get_or ROWS a 0) (bit_and (b * 0x108421) 0x1041041 * 31)

abbrev folded : ℕ → ℕ
folded n = bit_xor (bit_xor (bit_xor (bit_xor n (n / 2 ^ 6)) (n / 2 ^ 12)) (n / 2 ^ 18)) (n / 2 ^ 24)

abbrev by_rows : ℕ → ℕ → ℕ
by_rows a b = bit_and (folded (chosen a b)) 31 % 32

products : (a b : ℕ) → a < 32 → b < 32 → by_rows a b ≡ gf32.product a b
unfolding gf32.product
products a b ha hb =
    eqb-true _ _
    (each_below-at 32 (λ b. eqb (by_rows a b) (gf32.product a b))
    (each_below-at 32 (λ a. each_below 32 (λ b. eqb (by_rows a b) (gf32.product a b))) refl a ha) b hb)

pub returns : goal.returns
returns c =
    c.from_low_bits.ensures
    ∙ path _ (mul c.args.a c.args.b)
    (rw (c.from.ensures, c.to_u8.ensures, c.to_u8-2.ensures) (products c.args.a.value c.args.b.value c.args.a.in_field c.args.b.in_field))
