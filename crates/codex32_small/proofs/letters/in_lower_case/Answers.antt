use Rattle.std.proofs.Common.{◌≡◌, ◌<◌, ◌||◌, ℕ, true, bit_or, eqb, refl}
use mathlib.Core.Bool.{not}
use Rattle.std.proofs.lemmas.Bool.{agree_below_at, eqb-true}
use Rattle.bech32_gf.specs.Alphabet.{char_of, is_of_alphabet, value_of}
use Rattle.bech32_gf.proofs.Characters.{below-from_alphabet}
use Rattle.codex32_steady.proofs.Chosen.{second}
use Rattle.codex32_small.proofs.letters.in_lower_case.Goals as goal

each : (c : ℕ) → c < 128 → (not (is_of_alphabet c) || eqb (bit_or c 32) (char_of (value_of c))) ≡ true
unfolding is_of_alphabet value_of
each c l = agree_below_at (λ c. not (is_of_alphabet c) || eqb (bit_or c 32) (char_of (value_of c))) (λ _. true) 128 c refl l

pub returns : goal.returns
returns c =
    let h = c.requires in
    eqb-true _ _ (second (is_of_alphabet c.args.c) _ (each c.args.c (below-from_alphabet c.args.c h)) h)
