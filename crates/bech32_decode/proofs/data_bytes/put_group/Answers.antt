use Rattle.std.proofs.Common.{◌∙◌, ◌+◌, ◌++◌, List, ℕ, take, drop, ap, sym}
use Rattle.bech32_bits.specs.Bits.{to_bytes}
use Rattle.bech32_decode.proofs.WordBytes.{word_bytes}
use Rattle.bech32_decode.proofs.data_bytes.put_group.Goals as goal

pub returns : goal.returns
returns c =
    let at = c.args.at in
    let old = c.args.buffer.now in
    c.put_five.ensures
    ∙ ap (λ (l : List ℕ). take at old ++ (l ++ drop (at + 5) old)) (sym (word_bytes c.word_of_eight-word.result) ∙ ap to_bytes c.word_of_eight-word.ensures.elements)
