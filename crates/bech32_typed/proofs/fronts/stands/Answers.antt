use Rattle.std.proofs.Common.{rules, sym}
use Rattle.bech32_typed.proofs.Standing.{of_other_length, stands-more, stands-not}
use Rattle.bech32_typed.proofs.fronts.stands.Goals as goal

pub returns-then-frame-text : goal.returns-then-frame-text
returns-then-frame-text c = sym (of_other_length c.args.frame.now c.args.text.now c.if-frame-text.true)

pub returns-then-not-fits : goal.returns-then-not-fits
returns-then-not-fits c = search (rules, stands-not)

pub loop-i-preserved : goal.loop-i-preserved
loop-i-preserved c = search (rules, stands-more)
