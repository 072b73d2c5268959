use Rattle.std.proofs.Common.{◌++◌, ◌∙◌, ℕ, List, [], ◌∷◌, length, map, reverse, refl, ap, rules, sym, subst}
use Rattle.std.proofs.lemmas.List.{map-append}
use Rattle.bech32_gf.specs.Fe32 as fe32
use Rattle.bech32_gf.specs.declared.gf32.Fe32.{Fe32}
use Rattle.bech32_poly.specs.Polynomial.{appended}
use Rattle.bech32_poly.proofs.Appended.{appended-append}
use Rattle.bech32_checksum.specs.Code.{IsResidueOf, bech32m}
use Rattle.bech32_checksum.specs.Encoded.{char_of_element}
use Rattle.bech32_checksum.specs.Packed.{digits}
use Rattle.bech32_checksum.specs.TextPolynomial.{hrp_elements}
use Rattle.bech32_encode.specs.TextFrom.{text_front}
use Rattle.bech32_encode.proofs.TextPieces.{puts_none, puts_then, put_as_fits, encoded_pieces}
use Rattle.bech32_small.proofs.Targets.{residue_by, target-length}
use Rattle.bech32_small.proofs.text.put_text.Goals as goal

pub loop-fe-preserved : goal.loop-fe-preserved
loop-fe-preserved g c =
    let before = c.loop-fe.yielded in
    let fe = c.in-Some.fe in
    record {
      text = puts_then (map char_of_element before) (c.to_char.result ∷ []) (map char_of_element (before ++ fe ∷ [])) _ _ _ _ _ _
          (map-append char_of_element before (fe ∷ []) ∙ ap (λ (x : ℕ). map char_of_element before ++ x ∷ []) (sym c.to_char.ensures.value))
          c.loop-fe.invariant.text c.put_byte-count.ensures;
      residue = λ p h. subst (λ (q : List Fe32). IsResidueOf (λ (n : ℕ). n) bech32m c.input_fe.new.self q)
          (sym (appended-append p before (fe ∷ []))) (c.input_fe.ensures (appended p before) (c.loop-fe.invariant.residue p h));
    }

pub returns : goal.returns
returns g c code has =
    let part = c.args.part.now in
    let fes = c.loop-fe.yielded in
    let base : List Fe32 = appended (fe32.one ∷ []) (hrp_elements part) in
    let held = c.loop-fe.invariant.residue base (c.input_part.ensures (fe32.one ∷ []) c.new-engine.ensures) in
    let first : List ℕ = text_front part ++ [] in
    let second : List ℕ = first ++ map char_of_element fes in
    let text : List ℕ = second ++ map char_of_element (reverse (digits 6 c.residue.result.now)) in (
      fes,
      search rules,
      (
        text,
        encoded_pieces (λ (n : ℕ). n) code 6 (ap (λ (l : List Fe32). length l) has.generator) (target-length c.args.target code has)
            part [] fes c.input_row.new.engine c.residue.result.now 6 c.residue.ensures.value refl
            (residue_by c.args.target code has c.input_row.new.engine _ (c.input_row.ensures _ held)),
        put_as_fits text c.args.buffer.now c.put_row.new.buffer c.put_row.result
            (puts_then second _ text _ _ _ _ _ _ refl
            (puts_then first _ second _ _ _ _ _ _ refl
            (puts_then (text_front part) [] first _ _ _ _ _ _ refl c.put_front-count.ensures (puts_none [] _ _ refl))
            c.loop-fe.invariant.text)
            c.put_row.ensures),
      ),
    )
