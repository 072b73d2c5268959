use Rattle.std.proofs.Common.{◌∙◌, ap, rules}
use Rattle.bech32_bits.specs.Bits.{cut_in_fives}
use Rattle.bech32_bits.proofs.PlainCuts.{pad-one}
use Rattle.bech32_bits.proofs.plain.padded_to_fives.Goals as goal

pub loop-all-preserved : goal.loop-all-preserved
loop-all-preserved c = ap cut_in_fives c.in_ok-push.ensures.items ∙ pad-one c.loop-all.all.items (search rules) ∙ c.loop-all.invariant
