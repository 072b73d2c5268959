use Rattle.std.proofs.Common.{refl}
use Rattle.bech32_decode.proofs.EightAtOnce.{element_is}
use Rattle.bech32_decode.proofs.eights.element_at.Goals as goal

pub returns : goal.returns
returns c = element_is c.args.character _ _ _ c.at_place.ensures.value refl c.from_low_bits.ensures
