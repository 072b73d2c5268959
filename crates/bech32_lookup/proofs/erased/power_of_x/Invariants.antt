use Rattle.std.proofs.Common.{◌*◌, ◌+◌, ◌/◌}
use Rattle.bech32_gf.specs.Fe32 as fe32
use Rattle.bech32_poly.specs.Pattern.{monomial}
use Rattle.bech32_checksum.specs.Code.{IsResidueOf}
use Rattle.bech32_lookup.proofs.erased.power_of_x.Given as goal

abbrev pub invariant-loop-more : goal.invariant-loop-more
invariant-loop-more g l = IsResidueOf g.Ck.MidstateRepr.PackedFe32.number g.Ck.Checksum.code l.power (monomial fe32.ops (8 * (l.location / 8) + l.more) fe32.one)
