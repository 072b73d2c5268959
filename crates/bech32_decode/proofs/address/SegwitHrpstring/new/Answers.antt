use Rattle.bech32_decode.proofs.Addresses.{address-from_outcome, accepts-from_outcome}
use Rattle.bech32_decode.proofs.address.SegwitHrpstring.new.Goals as goal

pub returns-clause-address : goal.returns-clause-address
returns-clause-address c = address-from_outcome c.args.s.now c.read.result c.read.ensures

pub returns-clause-accepts : goal.returns-clause-accepts
returns-clause-accepts c = accepts-from_outcome c.args.s.now c.utf8.s c.read.result c.read.ensures
