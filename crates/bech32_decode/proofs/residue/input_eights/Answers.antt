use Rattle.std.proofs.Common.{[], refl}
use Rattle.std.proofs.lemmas.List.{take_rest}
use Rattle.bech32_gf.specs.Fe32.{element_of}
use Rattle.bech32_checksum.proofs.ResidueRuns.{taken_more}
use Rattle.bech32_decode.proofs.EightAtOnce.{same_word}
use Rattle.bech32_gf.specs.declared.gf32.Fe32.{Fe32 as Element}
use Rattle.bech32_checksum.specs.Code.{IsResidueAfter}
use Rattle.std.proofs.Common.{◌∙◌, List, subst}
use Rattle.bech32_decode.proofs.Letters.{is_data-drop}
use Rattle.bech32_decode.proofs.residue.input_eights.Goals as goal

pub loop-rest-init : goal.loop-rest-init
loop-rest-init g c = record { of_alphabet = c.requires; residue = ([], refl, λ p h. h) }

pub loop-rest-preserved : goal.loop-rest-preserved
loop-rest-preserved g c =
    let number = g.Ck.MidstateRepr.PackedFe32.number in
    let code = g.Ck.Checksum.code in
    let rest = c.loop-rest.rest.now in
    rw (take_rest rest 8) (record {
      of_alphabet = is_data-drop 8 rest c.loop-rest.invariant.of_alphabet;
      residue = taken_more number code element_of 8 c.args.characters.now rest
          c.args.engine.now c.loop-rest.engine c.input_word.new.self
          c.loop-rest.invariant.residue (subst (λ (l : List Element). IsResidueAfter number code c.loop-rest.engine l c.input_word.new.self) (same_word c.word_of_eight.result ∙ c.word_of_eight.ensures.elements) c.input_word.ensures);
    })
