use Rattle.std.proofs.Common.{ℕ, ◌∙◌, ap, ◌==◌}
use Rattle.std.specs.List.{list_any}
use Rattle.bech32_gf.specs.Alphabet.{is_of_alphabet, alphabet}
use Rattle.testing_tools.proofs.plain.grammar.is_character.Goals as goal

pub returns : goal.returns
unfolding is_of_alphabet
returns c = c.contains.ensures ∙ ap (λ (n : ℕ). list_any (λ b. b == n) alphabet) c.to_ascii_lowercase.ensures.value
