use Rattle.std.proofs.Common.{List, ℕ, subst}
use Rattle.bech32_checksum.specs.Code.{IsResidueAfter}
use Rattle.bech32_checksum.specs.TextPolynomial.{hrp_elements}
use Rattle.bech32_checksum.proofs.Engine.input_hrp.Goals as goal

pub returns : goal.returns
returns g c =
    subst (λ (l : List ℕ). IsResidueAfter g.Ck.MidstateRepr.PackedFe32.number g.Ck.Checksum.code c.args.self.now (hrp_elements l) c.input_part.new.self)
    c.as_bytes.ensures c.input_part.ensures
