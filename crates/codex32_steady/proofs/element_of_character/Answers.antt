use Rattle.std.proofs.Common.{◌≡◌, ◌<◌, ◌+◌, ◌*◌, ◌/◌, ◌%◌, ◌^◌, ◌∙◌, ◌||◌, ℕ, true, bit_and, bit_or, get_or, eqb, refl}
use mathlib.Core.Bool.{not}
use Rattle.std.proofs.lemmas.Bool.{agree_below_at, eqb-true}
use Rattle.bech32_gf.specs.Alphabet.{is_of_alphabet, value_of}
use Rattle.bech32_gf.specs.Fe32.{element_of, path}
use Rattle.bech32_gf.proofs.Characters.{below-from_alphabet}
use Rattle.codex32_steady.proofs.Chosen.{second}
use Rattle.codex32_steady.specs.declared.TheConstants.{VALUE_BITS}
use Rattle.codex32_steady.proofs.element_of_character.Goals as goal

-- from bit i of the value of a key on
abbrev bits : ℕ → ℕ → ℕ
bits i k = get_or VALUE_BITS i 0 / 2 ^ k % 4

abbrev by_bits : ℕ → ℕ
by_bits k = bits 0 k + bits 1 k * 2 + bits 2 k * 4 + (bits 3 k + bits 4 k * 2) * 8

abbrev key : ℕ → ℕ
key c = bit_or (bit_and c 31) (bit_and (c / 2) 32)

each : (c : ℕ) → c < 128 → (not (is_of_alphabet c) || eqb (by_bits (key c) % 32) (value_of c)) ≡ true
unfolding is_of_alphabet value_of
each c l = agree_below_at (λ c. not (is_of_alphabet c) || eqb (by_bits (key c) % 32) (value_of c)) (λ _. true) 128 c refl l

values : (c : ℕ) → is_of_alphabet c ≡ true → by_bits (key c) % 32 ≡ value_of c
values c h = eqb-true _ _ (second (is_of_alphabet c) _ (each c (below-from_alphabet c h)) h)

pub returns : goal.returns
returns c =
    c.from_low_bits.ensures
    ∙ path _ (element_of c.args.c)
    (rw (c.two_bits_of.ensures, c.two_bits_of-2.ensures, c.two_bits_of-3.ensures, c.two_bits_of-4.ensures, c.two_bits_of-5.ensures, c.key_of-key.ensures.value)
    (values c.args.c c.requires))
