use Rattle.std.proofs.Common.{◌≡◌, ◌<◌, ◌∙◌, ◌+◌, ◌*◌, ℕ, length, get_or, ap, sym, arith, rules}
use Rattle.bech32_bits.specs.Bits.{to_fes}
use Rattle.bech32_bits.proofs.WholeGroups.{five_of, elements_of_word}
use Rattle.bech32_bits.proofs.groups.eight_elements.Goals as goal

pub returns : goal.returns
returns c =
    let bytes = c.args.bytes in
    let long : length c.args.bytes ≡ 5 = search rules in
    let one : get_or c.args.bytes 1 0 < 256 = omega arith in
    let two : get_or c.args.bytes 2 0 < 256 = omega arith in
    let three : get_or c.args.bytes 3 0 < 256 = omega arith in
    let four : get_or c.args.bytes 4 0 < 256 = omega arith in
    let word : ℕ = (((c.from.result * 256 + c.from-2.result) * 256 + c.from-3.result) * 256 + c.from-4.result) * 256 + c.from-5.result in
    let is : word ≡ (((get_or c.args.bytes 0 0 * 256 + get_or c.args.bytes 1 0) * 256 + get_or c.args.bytes 2 0) * 256 + get_or c.args.bytes 3 0) * 256 + get_or c.args.bytes 4 0 = cc in
    sym (ap to_fes (five_of bytes long)
    ∙ elements_of_word (get_or bytes 0 0) (get_or bytes 1 0) (get_or bytes 2 0) (get_or bytes 3 0) (get_or bytes 4 0) word
    _ _ _ _ _ _ _ _ one two three four is
    c.element_in.ensures c.element_in-2.ensures c.element_in-3.ensures c.element_in-4.ensures
    c.element_in-5.ensures c.element_in-6.ensures c.element_in-7.ensures c.element_in-8.ensures)
