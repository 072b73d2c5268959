use Rattle.bech32.proofs.Values.{found_above}
use Rattle.bech32.proofs.elements.place_above.Goals as goal

pub returns : goal.returns
returns c = found_above c.args.values.now c.position_above.result c.position_above.ensures
