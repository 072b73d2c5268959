use Rattle.std.proofs.Common.{ℕ, ◌<◌, [], ◌∷◌}
use Rattle.bech32_gf.specs.Fe32 as fe32
use Rattle.bech32_gf.specs.declared.gf32.Fe32.{Fe32}
use Rattle.bech32_poly.specs.Pattern.{monomial}
use Rattle.bech32_checksum.specs.Code.{IsResidueOf}
use Rattle.bech32_bch.specs.Pattern.{HasRemainder}
use Rattle.bech32_lookup.specs.Multiple.{screen}
use Rattle.bech32_lookup.proofs.Screen.{shifted}
use Rattle.bech32_lookup.proofs.single.single_error.Given as goal

abbrev pub invariant-loop-location : goal.invariant-loop-location
invariant-loop-location g l =
    let generator = g.Ck.Checksum.code.generator in
    record {
      power : IsResidueOf g.Ck.MidstateRepr.PackedFe32.number g.Ck.Checksum.code l.power (monomial fe32.ops l.location fe32.one);
      screen : IsResidueOf g.Ck.MidstateRepr.PackedFe32.number g.Ck.Checksum.code l.screen (shifted fe32.ops l.location (screen generator l.residue));
      none : (i : ℕ) (v : Fe32) → i < l.location → HasRemainder fe32.ops generator l.residue ((i, v) ∷ []) → ⊥;
    }
