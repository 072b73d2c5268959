use Rattle.std.proofs.Common.{◌∙◌, ◌++◌, [], ℕ, List, drop, refl, sym, ap, subst}
use Rattle.std.proofs.lemmas.List.{take_rest, take-append-drop}
use Rattle.bech32_gf.specs.Fe32.{element}
use Rattle.bech32_gf.specs.declared.gf32.Fe32.{Fe32}
use Rattle.bech32_checksum.specs.Code.{IsResidueAfter}
use Rattle.bech32_checksum.proofs.ResidueRuns.{taken_more}
use Rattle.bech32_calls.proofs.Runs.{all_from_rest, other_among}
use Rattle.bech32_calls.proofs.engine.input_eights.Goals as goal

pub loop-rest-init : goal.loop-rest-init
loop-rest-init g c = record { elements = λ h. h; residue = ([], refl, λ p h. h) }

pub input_word-requires : goal.input_word-requires
input_word-requires g c = c.in-Some.ensures.2

pub loop-rest-preserved : goal.loop-rest-preserved
loop-rest-preserved g c =
    let number = g.Ck.MidstateRepr.PackedFe32.number in
    let code = g.Ck.Checksum.code in
    let rest = c.loop-rest.rest.now in
    rw (take_rest rest 8) (record {
      elements = λ h. c.loop-rest.invariant.elements (all_from_rest 8 rest c.in-Some.ensures.0 h);
      residue = taken_more number code element 8 c.args.values.now rest
          c.args.engine.now c.loop-rest.engine c.input_word.new.self
          c.loop-rest.invariant.residue
          (subst (λ (l : List Fe32). IsResidueAfter number code c.loop-rest.engine l c.input_word.new.self)
          c.in-Some.ensures.1 c.input_word.ensures);
    })

pub returns-in_default : goal.returns-in_default
returns-in_default g c =
    let rest = c.loop-rest.rest.now in
    let (taken, parts, held) = c.loop-rest.invariant.residue in (
      other_among c.args.values.now taken _ (drop 8 rest)
          (parts ∙ ap (λ (l : List ℕ). taken ++ l) (sym (take-append-drop 8 rest)))
          c.in_default.ensures,
      refl,
    )
