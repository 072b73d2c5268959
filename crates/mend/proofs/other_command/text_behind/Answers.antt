use Rattle.mend.proofs.OtherCommands.{stripped}
use Rattle.mend.proofs.other_command.text_behind.Goals as goal

pub returns : goal.returns
returns c = stripped _ c.args.front.now c.args.line.now c.strip_prefix.result c.strip_prefix.ensures.cases
