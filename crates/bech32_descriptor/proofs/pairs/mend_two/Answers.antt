use Rattle.std.proofs.Common.{◌<◌, length, arith}
use Rattle.bech32_descriptor.proofs.Short.{no_two_mends_of}
use Rattle.bech32_descriptor.proofs.pairs.mend_two.Goals as goal

pub returns-then-text-lt9 : goal.returns-then-text-lt9
returns-then-text-lt9 g c =
    let short : length c.args.text.now < 9 = omega arith in
    no_two_mends_of (λ m. (m.edits, m.text.items)) c.args.text.now c.new.result.items short c.new.ensures.items
