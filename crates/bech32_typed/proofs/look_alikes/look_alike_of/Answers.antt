use Rattle.bech32_typed.specs.Cleaned.{look_alikes}
use Rattle.bech32_typed.proofs.look_alikes.look_alike_of.Goals as goal

pub returns : goal.returns
unfolding look_alikes
returns c = c.looked_up.ensures
