use Rattle.codex32.proofs.HeaderWords.{header-from_parts}
use Rattle.codex32.proofs.header.Header.parse.Goals as goal

pub returns : goal.returns
returns c =
    header-from_parts c.args.threshold.now c.args.identifier.now c.args.share_index.now c.in_ok-threshold.threshold c.in_ok-identifier.identifier c.in_ok-share_index.share_index c.new.result
    c.in_ok-threshold.ensures c.in_ok-identifier.ensures c.in_ok-share_index.ensures c.new.ensures
