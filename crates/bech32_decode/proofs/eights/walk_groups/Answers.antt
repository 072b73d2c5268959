use Rattle.std.proofs.Common.{◌≡◌, ◌<◌, ◌∙◌, ◌+◌, ◌*◌, ◌/◌, ◌%◌, ◌^◌, ◌++◌, ℕ, List, length, take, ap, sym, subst, arith}
use Rattle.std.proofs.lemmas.List.{take_rest, map-append, length-take-le}
use Rattle.bech32_gf.specs.Fe32.{element_of, elements_of}
use Rattle.bech32_gf.specs.declared.gf32.Fe32.{Fe32}
use Rattle.bech32_checksum.specs.Code.{IsResidueAfter}
use Rattle.bech32_checksum.specs.Word.{word_elements}
use Rattle.bech32_checksum.proofs.ResidueRuns.{residue_then}
use Rattle.bech32_decode.specs.Cases.{lower_count, upper_count}
use Rattle.bech32_decode.proofs.Cases.{lower_count-append, upper_count-append, lower_count-le, upper_count-le}
use Rattle.bech32_decode.proofs.EightAtOnce.{eight_more, same_word}
use Rattle.bech32_decode.proofs.eights.walk_groups.Goals as goal

pub loop-group-preserved : goal.loop-group-preserved
loop-group-preserved g c =
    let number = g.Ck.MidstateRepr.PackedFe32.number in
    let code = g.Ck.Checksum.code in
    let i = c.loop-group.group in
    let cs = c.args.characters.now in
    let before : List ℕ = take (i * 8) cs in
    let more = eight_more i cs _ (take_rest cs (i * 8)) in
    let n = c.word_of_eight-word.result in
    let same : word_elements (n % 2 ^ 40) ≡ elements_of (take 8 _) = same_word n ∙ c.word_of_eight-word.ensures.elements in
    let all : elements_of (take ((i + 1) * 8) cs) ≡ elements_of before ++ word_elements (n % 2 ^ 40) =
    ap elements_of more ∙ map-append element_of before _ ∙ ap (λ (xs : List Fe32). elements_of before ++ xs) (sym same) in
    let low = ap lower_count more ∙ lower_count-append before _ in
    let high = ap upper_count more ∙ upper_count-append before _ in
    let l = c.word_of_eight-word.ensures.lower in
    let u = c.word_of_eight-word.ensures.upper in
    let so_far = c.loop-group.invariant.cases in
    record {
      after = subst (λ (l : List Fe32). IsResidueAfter number code c.args.engine.now l c.input_word.new.self) (sym all)
          (residue_then number code _ c.loop-group.engine _ (elements_of before) (word_elements (n % 2 ^ 40))
          c.loop-group.invariant.after c.input_word.ensures);
      cases = omega (arith, low, high, l, u, so_far);
    }

pub overflow_add-cases : goal.overflow_add-cases
overflow_add-cases g c =
    let i = c.loop-group.group in
    let cs = c.args.characters.now in
    let below : i < length cs / 8 = omega arith in
    let size = length-take-le (i * 8) cs (omega arith) in
    let l = lower_count-le (take (i * 8) cs) in
    let u = upper_count-le (take (i * 8) cs) in
    let so_far = c.loop-group.invariant.cases in
    omega (arith, size, l, u, so_far, c.requires)
