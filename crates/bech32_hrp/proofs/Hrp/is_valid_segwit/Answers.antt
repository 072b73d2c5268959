use Rattle.std.proofs.Common.{rules}
use Rattle.bech32_hrp.proofs.Hrp.is_valid_segwit.Goals as goal

pub returns-then-is_valid_on_mainnet : goal.returns-then-is_valid_on_mainnet
returns-then-is_valid_on_mainnet c = search rules

pub returns-else-is_valid_on_mainnet : goal.returns-else-is_valid_on_mainnet
returns-else-is_valid_on_mainnet c = search rules
