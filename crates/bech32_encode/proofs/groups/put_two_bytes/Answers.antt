use Rattle.std.proofs.Common.{◌≡◌, ◌<◌, ◌∙◌, ◌+◌, ◌*◌, ◌/◌, ◌%◌, ◌^◌, ◌++◌, ℕ, List, map, take, drop, get_or, refl, ap, sym, arith}
use Rattle.bech32_gf.specs.Alphabet.{char_of}
use Rattle.bech32_gf.specs.declared.gf32.Fe32.{Fe32}
use Rattle.bech32_checksum.specs.Encoded.{char_of_element}
use Rattle.bech32_checksum.specs.Word.{two_elements}
use Rattle.bech32_encode.proofs.Placed.{pair_then}
use Rattle.bech32_encode.proofs.TwoBytes.{elements_of_two, four_set}
use Rattle.bech32_encode.proofs.WholeGroups.{residue_then}
use Rattle.bech32_encode.proofs.groups.put_two_bytes.Goals as goal

pub returns-clause-text : goal.returns-clause-text
returns-clause-text g c =
    let bytes = c.args.bytes.now in
    let a = get_or bytes 0 0 in
    let b = get_or bytes 1 0 in
    let n : ℕ = (c.from.result * 256 + c.from-2.result) * 16 in
    let one : a < 256 = omega arith in
    let two : b < 256 = omega arith in
    let is : n ≡ (a * 256 + b) * 16 = omega arith in
    let fes = elements_of_two bytes a b n c.requires.two refl refl two is in
    let e : n / 1024 / 32 ≡ n / 1024 / 2 ^ 5 % 32 = omega arith in
    let f : n / 1024 % 32 ≡ n / 1024 / 2 ^ 0 % 32 = omega arith in
    let h : n % 1024 / 32 ≡ n % 1024 / 2 ^ 5 % 32 = omega arith in
    let i : n % 1024 % 32 ≡ n % 1024 / 2 ^ 0 % 32 = omega arith in
    let first = pair_then _ _ _ _ _ _ _ _ _ _ _ refl refl refl (ap char_of e) (ap char_of f) c.put_two.ensures in
    let second = pair_then _ _ _ _ _ _ _ _ _ _ _ first refl (omega arith) (ap char_of h) (ap char_of i) c.put_two-2.ensures in
    second ∙ four_set _ _ _ _ c.args.buffer.now c.args.at c.requires.room
    ∙ ap (λ (xs : List Fe32). take c.args.at c.args.buffer.now ++ (map char_of_element xs ++ drop (c.args.at + 4) c.args.buffer.now)) (sym fes)

pub returns-clause-residue : goal.returns-clause-residue
returns-clause-residue g c =
    let bytes = c.args.bytes.now in
    let n : ℕ = (c.from.result * 256 + c.from-2.result) * 16 in
    let small : c.from-2.result < 256 = omega arith in
    let first : c.from.result ≡ get_or bytes 0 0 = omega arith in
    let second : c.from-2.result ≡ get_or bytes 1 0 = omega arith in
    residue_then g.Ck.MidstateRepr.PackedFe32.number g.Ck.Checksum.code (two_elements (n / 1024)) (two_elements (n % 1024)) _ _ _ _
    (elements_of_two bytes c.from.result c.from-2.result n c.requires.two first second small refl)
    c.input_two.ensures c.input_two-2.ensures
