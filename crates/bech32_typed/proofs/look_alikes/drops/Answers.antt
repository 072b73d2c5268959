use Rattle.bech32_typed.specs.Cleaned.{dropped}
use Rattle.bech32_typed.proofs.look_alikes.drops.Goals as goal

pub returns : goal.returns
unfolding dropped
returns c = c.is_in.ensures
