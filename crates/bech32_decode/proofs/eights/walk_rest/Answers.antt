use Rattle.std.proofs.Common.{◌≡◌, ◌<◌, ◌∙◌, ◌+◌, ◌-◌, ◌*◌, ◌/◌, ◌%◌, ◌^◌, ◌++◌, ℕ, List, [], ◌∷◌, length, get_or, take, ap, sym, subst, arith}
use Rattle.std.proofs.lemmas.List.{take_rest, map-append, length-take-le}
use Rattle.bech32_gf.specs.Fe32.{element_of, elements_of}
use Rattle.bech32_gf.specs.declared.gf32.Fe32.{Fe32}
use Rattle.bech32_checksum.specs.Code.{IsResidueAfter}
use Rattle.bech32_checksum.specs.Word.{two_elements}
use Rattle.bech32_checksum.proofs.ResidueRuns.{residue_then}
use Rattle.bech32_decode.specs.Cases.{lower_count, upper_count}
use Rattle.bech32_decode.proofs.Cases.{lower_count-append, upper_count-append, lower_count-le, upper_count-le, counts_as_lower-le, counts_as_upper-le}
use Rattle.bech32_decode.proofs.TwoAtOnce.{two_more, same_two, last_more}
use Rattle.bech32_decode.proofs.eights.walk_rest.Goals as goal

pub overflow_add-cases : goal.overflow_add-cases
overflow_add-cases g c =
    let i = c.loop-pair.pair in
    let cs = c.args.characters.now in
    let below : i < length cs / 2 = omega arith in
    let size = length-take-le (2 * i) cs (omega arith) in
    let l = lower_count-le (take (2 * i) cs) in
    let u = upper_count-le (take (2 * i) cs) in
    let so_far = c.loop-pair.invariant.cases in
    omega (arith, size, l, u, so_far, c.requires)

pub overflow_add-cases-then-characters-eq1 : goal.overflow_add-cases-then-characters-eq1
overflow_add-cases-then-characters-eq1 g c =
    let i = c.loop-pair.pair in
    let cs = c.args.characters.now in
    let last = get_or cs (length cs - 1) 0 in
    let size = length-take-le (2 * i) cs (omega arith) in
    let l = lower_count-le (take (2 * i) cs) in
    let u = upper_count-le (take (2 * i) cs) in
    let so_far = c.loop-pair.invariant.cases in
    omega (arith, size, l, u, so_far, c.requires, c.case_of-cases.ensures, counts_as_lower-le last, counts_as_upper-le last)

pub loop-pair-preserved : goal.loop-pair-preserved
loop-pair-preserved g c =
    let number = g.Ck.MidstateRepr.PackedFe32.number in
    let code = g.Ck.Checksum.code in
    let i = c.loop-pair.pair in
    let cs = c.args.characters.now in
    let before : List ℕ = take (2 * i) cs in
    let more = two_more i cs _ (take_rest cs (2 * i)) in
    let n = c.two_of-two.result in
    let same : two_elements (n % 2 ^ 10) ≡ elements_of (take 2 _) = same_two n (n % 2 ^ 10) (omega arith) ∙ c.two_of-two.ensures.elements in
    let all : elements_of (take (2 * (i + 1)) cs) ≡ elements_of before ++ two_elements (n % 2 ^ 10) =
    ap elements_of more ∙ map-append element_of before _ ∙ ap (λ (xs : List Fe32). elements_of before ++ xs) (sym same) in
    let low = ap lower_count more ∙ lower_count-append before _ in
    let high = ap upper_count more ∙ upper_count-append before _ in
    let l = c.two_of-two.ensures.lower in
    let u = c.two_of-two.ensures.upper in
    let so_far = c.loop-pair.invariant.cases in
    record {
      after = subst (λ (l : List Fe32). IsResidueAfter number code c.args.engine.now l c.input_two.new.self) (sym all)
          (residue_then number code _ c.loop-pair.engine _ (elements_of before) (two_elements (n % 2 ^ 10))
          c.loop-pair.invariant.after c.input_two.ensures);
      cases = omega (arith, low, high, l, u, so_far);
    }

pub returns-then-characters-eq1-clause-after : goal.returns-then-characters-eq1-clause-after
returns-then-characters-eq1-clause-after g c =
    let number = g.Ck.MidstateRepr.PackedFe32.number in
    let code = g.Ck.Checksum.code in
    let i = c.loop-pair.pair in
    let cs = c.args.characters.now in
    let before : List ℕ = take (2 * i) cs in
    let e = c.element_at.result in
    let whole = last_more i cs (omega arith) in
    let all : elements_of cs ≡ elements_of before ++ e ∷ [] =
    ap elements_of whole ∙ map-append element_of before _ ∙ ap (λ (x : Fe32). elements_of before ++ x ∷ []) (sym c.element_at.ensures) in
    subst (λ (l : List Fe32). IsResidueAfter number code c.args.engine.now l c.input_fe.new.self) (sym all)
    (residue_then number code _ c.loop-pair.engine _ (elements_of before) (e ∷ []) c.loop-pair.invariant.after c.input_fe.ensures)

pub returns-then-characters-eq1-clause-cases : goal.returns-then-characters-eq1-clause-cases
returns-then-characters-eq1-clause-cases g c =
    let i = c.loop-pair.pair in
    let cs = c.args.characters.now in
    let whole = last_more i cs (omega arith) in
    let low = ap lower_count whole ∙ lower_count-append (take (2 * i) cs) _ in
    let high = ap upper_count whole ∙ upper_count-append (take (2 * i) cs) _ in
    omega (arith, low, high, c.loop-pair.invariant.cases, c.case_of-cases.ensures)
