use Rattle.std.proofs.Common.{rules}
use Rattle.bech32_checksum.proofs.EngineDefault.default.Goals as goal

pub returns : goal.returns
returns g c = search rules
