use Rattle.std.proofs.Common.{arith}
use Rattle.line_program.proofs.Split.{split-split_once}
use Rattle.c32_replies.proofs.derive.cut.Goals as goal

pub returns : goal.returns
returns c = split-split_once 32 c.args.texts.now c.split_once.result (omega arith) c.split_once.ensures.cases
