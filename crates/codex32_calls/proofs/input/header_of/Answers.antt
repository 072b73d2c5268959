use Rattle.codex32_calls.proofs.Inputs.{header-from_numbers}
use Rattle.codex32_calls.proofs.input.header_of.Goals as goal

pub returns : goal.returns
returns c =
    header-from_numbers c.args.threshold c.args.identifier.now c.args.share_index c.in_ok-threshold.threshold c.in_ok-identifier.identifier c.in_ok-share_index.share_index c.new.result
    c.in_ok-threshold.ensures c.in_ok-identifier.ensures c.in_ok-share_index.ensures c.new.ensures
