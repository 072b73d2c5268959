use Rattle.std.proofs.Common.{◌≡◌, length, map, ap, arith}
use Rattle.bech32_bits.proofs.WholeGroups.{eight_of}
use Rattle.bech32_checksum.specs.Encoded.{char_of_element}
use Rattle.bech32_encode.proofs.groups.characters_of.Goals as goal

pub returns : goal.returns
returns c =
    let long : length c.args.fes ≡ 8 = omega arith in
    let parts = eight_of c.args.fes c.index-fes-0.result c.index-fes-1.result c.index-fes-2.result c.index-fes-3.result
    c.index-fes-4.result c.index-fes-5.result c.index-fes-6.result c.index-fes-7.result long in
    let all = ap (map char_of_element) parts in
    cc
