use Rattle.std.proofs.Common.{◌<◌, length, arith}
use Rattle.bech32_descriptor.proofs.Listed.{all_told, are_mends}
use Rattle.bech32_descriptor.proofs.Short.{no_mends_of}
use Rattle.bech32_descriptor.proofs.mends.mend.Goals as goal

pub returns-then-text-lt8 : goal.returns-then-text-lt8
returns-then-text-lt8 g c =
    let short : length c.args.text.now < 8 = omega arith in
    no_mends_of (λ m. (m.edit, m.text.items)) c.args.most c.args.text.now c.new.result.items short c.new.ensures.items

pub made_all-requires : goal.made_all-requires
made_all-requires g c = (omega arith, all_told c.args.most c.args.text.now c.in_ok-edits.edits.items c.in_ok-edits.ensures.each)

pub returns : goal.returns
returns g c =
    are_mends (λ m. m.edit) (λ m. m.text.items) c.args.most c.args.text.now c.in_ok-edits.edits.items _ (omega arith) c.in_ok-edits.ensures
    c.in_ok-made_all.ensures.same c.in_ok-made_all.ensures.each
