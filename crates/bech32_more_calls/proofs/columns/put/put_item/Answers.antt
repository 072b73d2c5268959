use Rattle.bech32_more_calls.proofs.Held.{held-more}
use Rattle.bech32_more_calls.proofs.columns.put.put_item.Goals as goal

pub returns-then-i-buffer : goal.returns-then-i-buffer
returns-then-i-buffer g c = λ items start size h. held-more items start c.args.buffer.now c.args.i c.args.item size c.if-i-buffer.true h
