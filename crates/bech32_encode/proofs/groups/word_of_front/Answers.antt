use Rattle.std.proofs.Common.{◌≡◌, ◌<◌, ◌∙◌, ◌+◌, ◌*◌, ℕ, get_or, ap, sym, refl, arith}
use Rattle.bech32_bits.specs.Bits.{to_fes}
use Rattle.bech32_bits.proofs.WholeGroups.{elements_of_word}
use Rattle.bech32_encode.proofs.WholeGroups.{first_five-is}
use Rattle.bech32_encode.proofs.groups.word_of_front.Goals as goal

pub returns-clause-elements : goal.returns-clause-elements
returns-clause-elements c =
    let bytes = c.args.bytes.now in
    let a = get_or bytes 0 0 in
    let b = get_or bytes 1 0 in
    let d = get_or bytes 2 0 in
    let e = get_or bytes 3 0 in
    let f = get_or bytes 4 0 in
    let one : b < 256 = omega arith in
    let two : d < 256 = omega arith in
    let three : e < 256 = omega arith in
    let four : f < 256 = omega arith in
    let n : ℕ = c.from-5.result * 256 + c.from-6.result in
    let is : n ≡ (((a * 256 + b) * 256 + d) * 256 + e) * 256 + f = omega arith in
    sym (ap to_fes (sym (first_five-is bytes c.requires))
    ∙ elements_of_word a b d e f n
    _ _ _ _ _ _ _ _ one two three four is refl refl refl refl refl refl refl refl)
