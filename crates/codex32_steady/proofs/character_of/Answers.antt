use Rattle.std.proofs.Common.{◌≡◌, ◌<◌, ◌+◌, ◌*◌, ◌/◌, ◌%◌, ◌^◌, ℕ, get_or, eqb, refl}
use Rattle.std.proofs.lemmas.Bool.{eqb-true}
use Rattle.bech32_gf.specs.Alphabet.{char_of}
use Rattle.bech32_gf.specs.laws.Below.{each_below-at}
use Rattle.codex32_steady.specs.declared.TheConstants.{CHARACTER_BITS}
use Rattle.codex32_steady.proofs.character_of.Goals as goal

-- two bits of the character of a value
abbrev bits : ℕ → ℕ → ℕ
bits i v = get_or CHARACTER_BITS i 0 / 2 ^ (v * 2) % 4

abbrev by_bits : ℕ → ℕ
by_bits v = bits 0 v + bits 1 v * 4 + bits 2 v * 16 + bits 3 v * 64

characters : (v : ℕ) → v < 32 → by_bits v ≡ char_of v
characters v h = eqb-true _ _ (each_below-at 32 (λ v. eqb (by_bits v) (char_of v)) refl v h)

pub returns : goal.returns
returns c =
    rw (c.two_bits_of.ensures, c.two_bits_of-2.ensures, c.two_bits_of-3.ensures, c.two_bits_of-4.ensures, c.to_u8-place.ensures)
    (characters c.args.x.value c.args.x.in_field)
