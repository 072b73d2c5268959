use Rattle.std.proofs.Common.{◌≡◌, ◌∙◌, ◌/◌, ◌%◌, ◌^◌, ℕ, List, map, ap, refl, arith}
use Rattle.bech32_gf.specs.Alphabet.{char_of}
use Rattle.bech32_checksum.specs.Encoded.{char_of_element}
use Rattle.bech32_encode.proofs.WholeGroups.{eight_set}
use Rattle.bech32_checksum.specs.Word.{word_elements}
use Rattle.bech32_encode.proofs.Placed.{pair_then}
use Rattle.bech32_encode.proofs.groups.put_word.Goals as goal

pub returns : goal.returns
returns c =
    let n = c.args.word in
    let bytes : List ℕ = map char_of_element (word_elements n) in
    let a : n / 2 ^ 30 % 1024 / 32 ≡ n / 2 ^ 35 % 32 = omega arith in
    let b : n / 2 ^ 30 % 1024 % 32 ≡ n / 2 ^ 30 % 32 = omega arith in
    let d : n / 2 ^ 20 % 1024 / 32 ≡ n / 2 ^ 25 % 32 = omega arith in
    let e : n / 2 ^ 20 % 1024 % 32 ≡ n / 2 ^ 20 % 32 = omega arith in
    let f : n / 2 ^ 10 % 1024 / 32 ≡ n / 2 ^ 15 % 32 = omega arith in
    let g : n / 2 ^ 10 % 1024 % 32 ≡ n / 2 ^ 10 % 32 = omega arith in
    let h : n % 1024 / 32 ≡ n / 2 ^ 5 % 32 = omega arith in
    let i : n % 1024 % 32 ≡ n / 2 ^ 0 % 32 = omega arith in
    let one = pair_then _ _ _ _ _ _ _ _ _ _ _ refl refl refl (ap char_of a) (ap char_of b) c.put_two.ensures in
    let two = pair_then _ _ _ _ _ _ _ _ _ _ _ one refl (omega arith) (ap char_of d) (ap char_of e) c.put_two-2.ensures in
    let three = pair_then _ _ _ _ _ _ _ _ _ _ _ two refl (omega arith) (ap char_of f) (ap char_of g) c.put_two-3.ensures in
    let four = pair_then _ _ _ _ _ _ _ _ _ _ _ three refl (omega arith) (ap char_of h) (ap char_of i) c.put_two-4.ensures in
    four ∙ eight_set bytes c.args.buffer.now c.args.at refl c.requires
