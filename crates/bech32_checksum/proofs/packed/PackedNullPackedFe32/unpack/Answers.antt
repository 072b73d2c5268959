use Rattle.std.proofs.Common.{rules}
use Rattle.bech32_checksum.proofs.packed.PackedNullPackedFe32.unpack.Goals as goal

pub returns : goal.returns
returns c = search rules
