use Rattle.std.proofs.Common.{length}
use Rattle.bech32_block.proofs.text.+write_reversed.Given as goal

abbrev pub decreases-write_reversed : goal.decreases-write_reversed
decreases-write_reversed g l = length l.elements.now
