use Rattle.codex32.proofs.ShareStrings.{accepts-from_outcome}
use Rattle.codex32.proofs.share.Share.parse.Goals as goal

pub returns-clause-accepts : goal.returns-clause-accepts
returns-clause-accepts c = accepts-from_outcome c.args.text.now c.utf8.text c.read.result c.read.ensures
