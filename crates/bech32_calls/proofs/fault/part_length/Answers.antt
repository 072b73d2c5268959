use Rattle.std.proofs.Common.{arith}
use Rattle.bech32_calls.proofs.Separators.{part_end-at}
use Rattle.bech32_calls.proofs.fault.part_length.Goals as goal

pub returns-clause-value : goal.returns-clause-value
returns-clause-value c hrp data_part h =
    omega (arith, c.saturating_sub.ensures, part_end-at c.args.text.now hrp data_part c.end_of.result h c.end_of.ensures)
