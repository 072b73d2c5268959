use Rattle.bech32_gf.specs.Alphabet.{value_of-lt}
use Rattle.bech32_gf.specs.Fe32.{path, element_of}
use Rattle.bech32_gf.proofs.Characters.{below-from_alphabet, VALUES-value}
use Rattle.bech32_gf.proofs.gf32.Fe32.from_char_unchecked.Goals as goal

pub bounds-c : goal.bounds-c
bounds-c c = below-from_alphabet c.args.c c.requires

pub invariant_of-result : goal.invariant_of-result
invariant_of-result c = record { in_field = rw (VALUES-value c.args.c c.requires) (value_of-lt c.args.c) }

pub returns : goal.returns
returns c = path _ (element_of c.args.c) (VALUES-value c.args.c c.requires)
