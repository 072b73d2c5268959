use Rattle.std.proofs.Common.{◌/◌, bit_and, bit_or, nat_lt, refl, rules}
use Rattle.std.proofs.lemmas.Bool.{ltb-true}
use Rattle.bech32_gf.specs.laws.Below.{each_below-at}
use Rattle.codex32_steady.proofs.key_of.Goals as goal

pub returns-clause-below : goal.returns-clause-below
returns-clause-below c =
    ltb-true _ _ (each_below-at 256 (λ c. nat_lt (bit_or (bit_and c 31) (bit_and (c / 2) 32)) 64) refl c.args.c (search rules))
