use Rattle.std.proofs.Common.{◌/◌, ◌^◌, ◌∙◌}
use Rattle.bech32_checksum.proofs.OneError.{low_bits}
use Rattle.bech32_checksum.proofs.checksums.erased.coefficient_at.Goals as goal

pub returns : goal.returns
returns c = c.from_low_bits.ensures ∙ low_bits (c.args.row / 2 ^ c.args.bit)
