use Rattle.codex32.proofs.Refused.{ms-tested}
use Rattle.codex32.proofs.frame.is_of_codex32.Goals as goal

pub returns : goal.returns
returns c = ms-tested c.args.hrp.now c.eq_ignore_ascii_case.result c.eq_ignore_ascii_case.ensures.test
