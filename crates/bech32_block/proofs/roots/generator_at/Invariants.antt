use Rattle.std.proofs.Common.{◌≡◌, take, reverse}
use Rattle.bech32_gf.specs.Fe32 as fe32
use Rattle.bech32_poly.specs.Embedding.{value_in}
use Rattle.bech32_poly.specs.Remainder.{monic}
use Rattle.bech32_block.proofs.roots.generator_at.Given as goal

abbrev pub invariant-loop-coefficient : goal.invariant-loop-coefficient
invariant-loop-coefficient g l =
    l.value ≡ value_in g.E.Arithmetic.ops g.E.Extension.embed (monic fe32.ops (reverse (take l.coefficient-index l.generator))) l.x
