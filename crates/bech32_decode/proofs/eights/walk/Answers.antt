use Rattle.std.proofs.Common.{◌≡◌, ◌∙◌, ◌-◌, ◌*◌, ◌/◌, ◌++◌, ℕ, List, length, take, drop, ap, sym, subst, arith}
use Rattle.std.proofs.lemmas.List.{take_rest, take-append-drop, map-append, length-take-le, length-drop}
use Rattle.bech32_gf.specs.Fe32.{element_of, elements_of}
use Rattle.bech32_checksum.specs.Code.{IsResidueAfter}
use Rattle.bech32_checksum.proofs.ResidueRuns.{residue_then}
use Rattle.bech32_gf.specs.declared.gf32.Fe32.{Fe32}
use Rattle.bech32_decode.specs.Cases.{lower_count, upper_count}
use Rattle.bech32_decode.proofs.Cases.{lower_count-append, upper_count-append, lower_count-le, upper_count-le}
use Rattle.bech32_decode.proofs.eights.walk.Goals as goal

-- the characters behind the whole groups
abbrev items_of : List ℕ → List ℕ
items_of cs = take (length cs - length cs / 8 * 8) (drop (length cs / 8 * 8) cs)

items-length : (cs : List ℕ) → length (items_of cs) ≡ length cs - length cs / 8 * 8
items-length cs = length-take-le (length cs - length cs / 8 * 8) (drop (length cs / 8 * 8) cs) (omega (arith, length-drop (length cs / 8 * 8) cs))

parts : (cs : List ℕ) → take (length cs / 8 * 8) cs ++ items_of cs ≡ cs
parts cs = ap (λ (l : List ℕ). take (length cs / 8 * 8) cs ++ l) (take_rest cs (length cs / 8 * 8)) ∙ take-append-drop (length cs / 8 * 8) cs

pub overflow_add-result : goal.overflow_add-result
overflow_add-result g c =
    let cs = c.args.characters.now in
    let n = length cs / 8 * 8 in
    let items = items_of cs in
    omega (
      arith,
      items-length cs,
      length-take-le n cs (omega arith),
      lower_count-le (take n cs),
      upper_count-le (take n cs),
      lower_count-le items,
      upper_count-le items,
      c.walk_groups-cases.ensures.cases,
      c.walk_rest.ensures.cases,
      c.requires,
    )

pub returns-clause-after : goal.returns-clause-after
returns-clause-after g c =
    let number = g.Ck.MidstateRepr.PackedFe32.number in
    let code = g.Ck.Checksum.code in
    let cs = c.args.characters.now in
    let n = length cs / 8 * 8 in
    let items = items_of cs in
    let all : elements_of cs ≡ elements_of (take n cs) ++ elements_of items = ap elements_of (sym (parts cs)) ∙ map-append element_of (take n cs) items in
    subst (λ (l : List Fe32). IsResidueAfter number code c.args.engine.now l c.walk_rest.new.engine) (sym all)
    (residue_then number code _ c.walk_groups-cases.new.engine _ (elements_of (take n cs)) (elements_of items) c.walk_groups-cases.ensures.after c.walk_rest.ensures.after)

pub returns-clause-cases : goal.returns-clause-cases
returns-clause-cases g c =
    let cs = c.args.characters.now in
    let n = length cs / 8 * 8 in
    let items = items_of cs in
    let l = ap lower_count (sym (parts cs)) ∙ lower_count-append (take n cs) items in
    let u = ap upper_count (sym (parts cs)) ∙ upper_count-append (take n cs) items in
    omega (arith, l, u, c.walk_rest.ensures.cases, c.walk_groups-cases.ensures.cases)
