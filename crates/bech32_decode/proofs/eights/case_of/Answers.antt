use Rattle.bech32_decode.proofs.EightAtOnce.{cases_are}
use Rattle.bech32_decode.proofs.eights.case_of.Goals as goal

pub returns : goal.returns
returns c = cases_are c.args.character _ c.at_place.ensures.value
