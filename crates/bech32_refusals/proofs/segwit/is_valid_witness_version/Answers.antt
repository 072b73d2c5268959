use Rattle.std.proofs.Common.{rules}
use Rattle.bech32_refusals.proofs.segwit.is_valid_witness_version.Goals as goal

pub returns : goal.returns
returns c = search rules
