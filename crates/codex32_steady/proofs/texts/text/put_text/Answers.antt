use Rattle.std.proofs.Common.{◌≡◌, ◌++◌, ◌∷◌, ◌∙◌, [], ℕ, List, length, map, reverse, ap, sym, subst, refl, arith}
use Rattle.bech32_checksum.specs.Encoded.{char_of_element, IsEncodedText}
use Rattle.bech32_checksum.specs.Packed.{digits}
use Rattle.bech32_checksum.proofs.Digits.{length-tabulate}
use Rattle.bech32_encode.proofs.ChecksumEnds.{target-length}
use Rattle.bech32_encode.proofs.TextPieces.{encoded_pieces}
use Rattle.codex32_steady.specs.texts.Parts.{ms}
use Rattle.codex32_steady.proofs.texts.text.put_text.Goals as goal

pub returns : goal.returns
returns g c =
    let number = g.Ck.MidstateRepr.PackedFe32.number in
    let code = g.Ck.Checksum.code in
    let laws = g.met.Ck.Checksum in
    let row = c.checksum_of.result in
    let size : ℕ = length c.split_at_mut-front.result.1.now in
    let fits : size ≡ g.Ck.Checksum.CHECKSUM_LENGTH = omega (arith, c.split_at_mut-front.ensures.back_len, c.requires, laws.degree_law) in
    let whole : c.put_spelled.new.text ++ c.put_row.new.target
    ≡ ((109 ∷ 115 ∷ 49 ∷ []) ++ map char_of_element c.args.elements.now) ++ map char_of_element (reverse (digits size (number row))) =
    ap (λ (u : List ℕ). u ++ c.put_row.new.target) c.put_spelled.ensures ∙ ap (λ (u : List ℕ). (109 ∷ 115 ∷ 49 ∷ map char_of_element c.args.elements.now) ++ u) c.put_row.ensures in
    subst (IsEncodedText code ms c.args.elements.now) (sym whole)
    (encoded_pieces number code g.Ck.Checksum.CHECKSUM_LENGTH laws.degree_law (target-length g.Ck.Checksum.code _ _ laws.code_law (length-tabulate _ _) laws.degree_law)
    ms [] c.args.elements.now row row size refl fits c.checksum_of.ensures)
