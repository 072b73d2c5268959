use Rattle.std.proofs.Common.{◌∙◌, sym, ap, List, ℕ, [], ◌∷◌}
use Rattle.std.proofs.lemmas.List.{map-append}
use Rattle.bech32_gf.specs.declared.gf32.Fe32.{Fe32}
use Rattle.bech32_gf.specs.Fe32 as fe32
use Rattle.bech32_gf.specs.Fe32.{element_of, elements_of}
use Rattle.bech32_poly.specs.Polynomial.{appended}
use Rattle.bech32_poly.proofs.Appended.{appended-append}
use Rattle.bech32_checksum.specs.TextPolynomial.{hrp_elements}
use Rattle.bech32_decode.specs.Readers.{elements_left}
use Rattle.bech32_decode.specs.declared.reader.AsciiToFe32Iter.{AsciiToFe32Iter}
use Rattle.bech32_decode.proofs.residue.residue_of.Goals as goal

pub loop-fe-init : goal.loop-fe-init
loop-fe-init g c =
    let front : List Fe32 = fe32.one ∷ [] in
    let part : List Fe32 = hrp_elements c.args.part.now in
    let base : List Fe32 = appended front part in
    let (taken, parts, held) = c.input_eights-left.ensures.residue in
    let left = c.input_eights-left.result.now in
    let given = c.into_iter-fe-iterator.ensures.into_iter_gives in (
      appended base (elements_of taken),
      ap (λ (s : AsciiToFe32Iter). appended (appended base (elements_of taken)) (elements_left s)) given
          ∙ ap (λ (xs : List Fe32). appended (appended base (elements_of taken)) xs) c.new-fe-items.ensures
          ∙ sym (appended-append base (elements_of taken) (elements_of left))
          ∙ ap (appended base) (sym (map-append element_of taken left))
          ∙ ap (λ (l : List ℕ). appended base (elements_of l)) (sym parts)
          ∙ sym (appended-append front part (elements_of c.args.data_part.now)),
      held base (c.input_part.ensures front c.new-engine.ensures),
    )
