use Rattle.std.proofs.Common.{refl}
use Rattle.bech32_encode.proofs.TwoTable.{first, second}
use Rattle.bech32_encode.proofs.Placed.{pair_set}
use Rattle.bech32_encode.proofs.pairs.put_two.Goals as goal

pub returns : goal.returns
returns c = pair_set c.args.buffer.now c.args.at _ _ _ _ _ _ refl (first c.args.two c.requires.two) (second c.args.two c.requires.two)
