use Rattle.std.proofs.Common.{◌≡◌, ◌-◌, ◌+◌, ◌++◌, ◌∙◌, ℕ, [], ◌∷◌, drop, reverse, map, ap, sym}
use Rattle.bech32_gf.specs.Fe32.{element}
use Rattle.bech32_checksum.specs.Encoded.{char_of_element}
use Rattle.bech32_checksum.specs.Packed.{digit_of, digits}
use Rattle.bech32_encode.proofs.TextPieces.{puts_none, puts_then, element-digit_of, characters_none, characters_more}
use Rattle.bech32_small.proofs.text.put_row.Goals as goal

pub loop-i-init : goal.loop-i-init
loop-i-init c = puts_none _ c.args.buffer.now c.args.count (characters_none 6 c.args.row)

pub loop-i-preserved : goal.loop-i-preserved
loop-i-preserved c =
    let number = c.args.row in
    let n : ℕ = 6 in
    let i = c.loop-i.i in
    let before = map char_of_element (reverse (drop (n - i) (digits n number))) in
    let digit : c.from_low_bits-fe.result ≡ digit_of number (n - 1 - i) =
    c.from_low_bits-fe.ensures ∙ ap element c.unpack.ensures.value ∙ element-digit_of number (n - 1 - i) in
    let is : c.to_char.result ≡ char_of_element (digit_of number (n - 1 - i)) = c.to_char.ensures.value ∙ ap char_of_element digit in
    puts_then before (c.to_char.result ∷ []) (map char_of_element (reverse (drop (n - (i + 1)) (digits n number)))) _ _ _ _ _ _
    (characters_more n number i c.loop-i-test.true ∙ ap (λ (x : ℕ). before ++ x ∷ []) (sym is))
    c.loop-i.invariant c.put_byte-count.ensures
