use Rattle.std.proofs.Common.{◌≡◌, ◌∙◌, ◌%◌, ◌<◌, ◌==◌, ℕ, arith, ap}
use Rattle.std.specs.Prelude.{Option, position, unwrap_or}
use Rattle.bech32_gf.specs.Fe32 as fe32
use Rattle.bech32_gf.specs.Alphabet.{alphabet, value_of, value_of-lt}
use Rattle.testing_tools.proofs.plain.grammar.element_of_character.Goals as goal

pub returns : goal.returns
unfolding value_of
returns c =
    let place : c.unwrap_or.result ≡ value_of c.args.character =
    c.unwrap_or.ensures ∙ ap (λ (o : Option ℕ). unwrap_or o 0) (c.place_of-place.ensures ∙ ap (λ (n : ℕ). position (λ b. b == n) alphabet) c.to_ascii_lowercase.ensures.value) in
    let small : value_of c.args.character < 32 = value_of-lt c.args.character in
    let same : c.unwrap_or.result % 32 ≡ value_of c.args.character = omega arith in
    c.from_low_bits.ensures ∙ fe32.path _ _ same
