use Rattle.std.proofs.Common.{◌*◌}
use Rattle.bech32_gf.specs.Fe32 as fe32
use Rattle.bech32_poly.specs.Pattern.{monomial}
use Rattle.bech32_checksum.specs.Code.{IsResidueOf}
use Rattle.bech32_lookup.proofs.erased.eights_of_x.Given as goal

abbrev pub invariant-loop-eight : goal.invariant-loop-eight
invariant-loop-eight g l = IsResidueOf g.Ck.MidstateRepr.PackedFe32.number g.Ck.Checksum.code l.power (monomial fe32.ops (8 * l.eight) fe32.one)
