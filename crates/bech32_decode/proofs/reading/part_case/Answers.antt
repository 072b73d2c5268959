use Rattle.std.proofs.Common.{arith, refl}
use Rattle.bech32_decode.proofs.PartCases.{case_read}
use Rattle.bech32_decode.proofs.reading.part_case.Goals as goal

pub returns-clause-graphic : goal.returns-clause-graphic
returns-clause-graphic c small = (case_read c.args.b _ (omega arith) refl small).0

pub returns-clause-letters : goal.returns-clause-letters
returns-clause-letters c small = (case_read c.args.b _ (omega arith) refl small).1
