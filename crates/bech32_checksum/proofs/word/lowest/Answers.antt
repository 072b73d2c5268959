use Rattle.std.proofs.Common.{◌%◌, ◌∙◌, arith}
use Rattle.bech32_gf.specs.Fe32.{element, path}
use Rattle.bech32_checksum.proofs.word.lowest.Goals as goal

pub returns : goal.returns
returns c = c.from_low_bits.ensures ∙ path (element (c.args.number % 32)) (element c.args.number) (omega arith)
