use Rattle.std.proofs.Common.{◌≡◌, ◌+◌}
use Rattle.bech32_gf.specs.Field.{power}
use Rattle.bech32_bch.specs.Search.{AreSyndromes}
use Rattle.bech32_bch.proofs.syndromes.syndromes.Given as goal

abbrev pub invariant-loop : goal.invariant-loop
invariant-loop g l = record {
  so_far : AreSyndromes g.E.Arithmetic.ops g.E.Extension.embed l.base l.start l.counter l.residue l.list;
  next : l.x ≡ power g.E.Arithmetic.ops l.base (l.start + l.counter);
}
