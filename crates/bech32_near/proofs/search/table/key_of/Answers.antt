use Rattle.std.proofs.Common.{◌≡◌, get_or, ap, ◌∙◌, arith}
use Rattle.bech32_checksum.specs.Packed.{sum_of_words}
use Rattle.bech32_checksum.proofs.PartialProduct.{word-added, word-kept}
use Rattle.bech32_near.proofs.search.table.key_of.Goals as goal
use Rattle.bech32_near.proofs.search.table.key_of.Goals.{then-value-i-eq1, else-value-i-eq1}

pub loop-i-preserved : goal.loop-i-preserved
loop-i-preserved c = elim c.if-value-i-eq1.branch [
  | then-value-i-eq1 w ↦ word-added (λ i. get_or c.args.five i 0) c.loop-i.i c.args.value c.loop-i.key c.if-value-i-eq1.key w.if-value-i-eq1.true c.loop-i.invariant w.key-is
  | else-value-i-eq1 w ↦ w.key-is ∙ word-kept (λ i. get_or c.args.five i 0) c.loop-i.i c.args.value c.loop-i.key w.if-value-i-eq1.false c.loop-i.invariant
]

pub returns : goal.returns
returns c = let end : c.loop-i.i ≡ 5 = omega arith in c.loop-i.invariant ∙ ap (λ n. sum_of_words (λ i. get_or c.args.five i 0) n c.args.value) end
