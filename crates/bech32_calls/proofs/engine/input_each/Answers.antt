use Rattle.std.proofs.Common.{◌≤◌, ℕ, List, All, length, map, take, arith, sym, subst, take_all}
use Rattle.std.proofs.lemmas.List.Elements.{All-more}
use Rattle.bech32_gf.specs.declared.gf32.Fe32.{Fe32}
use Rattle.bech32_gf.specs.Fe32.{element}
use Rattle.bech32_checksum.specs.Code.{IsResidueAfter}
use Rattle.bech32_checksum.proofs.ResidueRuns.{residue_then}
use Rattle.bech32_calls.proofs.Runs.{elements-more}
use Rattle.bech32_calls.proofs.engine.input_each.Goals as goal

pub loop-value-preserved : goal.loop-value-preserved
loop-value-preserved g c =
    let number = g.Ck.MidstateRepr.PackedFe32.number in
    let code = g.Ck.Checksum.code in
    let values = c.args.values.now in
    let i = c.loop-value.value-index in
    let within = c.loop-value-test.true in
    let before = c.loop-value.invariant in
    let (small, is) = c.in_ok-element_of.ensures in
    record {
      elements = All-more (λ x. x ≤ 31) values i 0 within before.elements
          (subst (λ (n : ℕ). n ≤ 31) c.from.ensures small);
      residue = subst (λ (l : List Fe32). IsResidueAfter number code c.args.engine.now l c.input_fe.new.self)
          (sym (elements-more values i c.from.result within c.from.ensures c.in_ok-element_of.field-0 is))
          (residue_then number code c.args.engine.now _ _ (map element (take i values)) _
          before.residue c.input_fe.ensures);
    }

pub returns : goal.returns
returns g c =
    let number = g.Ck.MidstateRepr.PackedFe32.number in
    let code = g.Ck.Checksum.code in
    let values = c.args.values.now in
    let i = c.loop-value.value-index in
    let all : length values ≤ i = omega arith in
    let whole = take_all i values all in (
      subst (All (λ x. x ≤ 31)) whole c.loop-value.invariant.elements,
      subst (λ (l : List ℕ). IsResidueAfter number code c.args.engine.now (map element l) c.loop-value.engine)
          whole c.loop-value.invariant.residue,
    )
