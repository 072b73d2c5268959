use Rattle.std.proofs.Common.{◌∙◌}
use Rattle.bech32_decode.proofs.ByteWalks.{bytes_size}
use Rattle.bech32_decode.proofs.byte_reader.ByteIterExactSizeIterator.len.Goals as goal

pub returns-clause-value : goal.returns-clause-value
returns-clause-value c = c.len.ensures.left ∙ bytes_size c.args.self.now.iter c.args.self.now.dropped
