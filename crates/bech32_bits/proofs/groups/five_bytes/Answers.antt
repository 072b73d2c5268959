use Rattle.std.proofs.Common.{◌≡◌, ◌∙◌, ◌+◌, ◌*◌, length, get_or, ap, refl, arith}
use Rattle.bech32_bits.specs.Bits.{to_bytes}
use Rattle.bech32_bits.proofs.WholeGroups.{eight_of, bytes_of_word}
use Rattle.bech32_bits.proofs.groups.five_bytes.Goals as goal

pub returns : goal.returns
returns c =
    let long : length c.args.fes ≡ 8 = omega arith in
    let parts = eight_of c.args.fes c.index-fes-0.result c.index-fes-1.result c.index-fes-2.result c.index-fes-3.result
    c.index-fes-4.result c.index-fes-5.result c.index-fes-6.result c.index-fes-7.result long in
    let high = c.word_of_four.result in
    let low = c.word_of_four-2.result in
    let bytes = bytes_of_word (get_or c.args.fes 0 c.index-fes-0.result) (get_or c.args.fes 1 c.index-fes-1.result) (get_or c.args.fes 2 c.index-fes-2.result) (get_or c.args.fes 3 c.index-fes-3.result) (get_or c.args.fes 4 c.index-fes-4.result) (get_or c.args.fes 5 c.index-fes-5.result) (get_or c.args.fes 6 c.index-fes-6.result) (get_or c.args.fes 7 c.index-fes-7.result) high low (high * 1048576 + low)
    c.word_of_four.ensures.number c.word_of_four-2.ensures.number c.word_of_four-2.ensures.below refl in
    let whole = ap to_bytes parts ∙ bytes in
    cc
