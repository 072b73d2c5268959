use Rattle.bech32_detect.proofs.Texts.{if_texts}
use Rattle.bech32_detect.proofs.detects_four.Goals as goal

pub returns-clause-texts : goal.returns-clause-texts
returns-clause-texts g c = if_texts g.Ck.Checksum.code c.args.n c.decided_in.result c.decided_in.ensures.value
