use Rattle.std.specs.Prelude.{map, set}
use Rattle.std.proofs.Common.{◌≡◌, ◌++◌, ℕ, List, get_or, length, ap, subst, ◌∙◌, arith}
use Rattle.std.proofs.lemmas.List.{length-set, set-get_or, set-set}
use Rattle.std.proofs.lemmas.Result.{IfOk-weaker}
use Rattle.bech32_descriptor.specs.Edits.{AreAllMends}
use Rattle.bech32_descriptor.specs.PairWalks.{IsMendBelow, IsTwoBy, beside}
use Rattle.bech32_descriptor.specs.Pairs.{AddsAllByTwo}
use Rattle.bech32_descriptor.specs.declared.edits.Change.TheVariants.{Changed}
use Rattle.bech32_descriptor.specs.declared.edits.Edit.{Edit}
use Rattle.bech32_descriptor.proofs.TwoChanges.{all_beside}
use Rattle.bech32_descriptor.proofs.pairs.push_two_with.Goals as goal

pub set_byte-changed-requires : goal.set_byte-changed-requires
set_byte-changed-requires g c = record { ready = c.requires.ready; within = c.requires.told.0 }

pub changed_below-requires : goal.changed_below-requires
changed_below-requires g c =
    let text = c.args.text.now in
    let size : length c.set_byte-changed.new.text ≡ length text =
    ap (λ (u : List ℕ). length u) c.set_byte-changed.ensures.text ∙ length-set text c.args.place c.args.byte in
    record { ready = c.set_byte-changed.ensures.ready; within = omega (arith, size, c.requires.told.0) }

pub returns : goal.returns
returns g c =
    let text = c.args.text.now in
    let i = c.args.place in
    let b = c.args.byte in
    let found = c.args.found.now.items in
    let second : Edit = record { place = i; change = Changed b } in
    let told = c.requires.told in
    let firsts = c.in_ok-firsts.firsts.items in
    let (same, all) = c.in_ok-firsts.ensures in
    let back : set c.changed_below.new.text i (get_or text i 0) ≡ text =
    ap (λ (u : List ℕ). set u i (get_or text i 0)) (same ∙ c.set_byte-changed.ensures.text)
    ∙ set-set text i b (get_or text i 0) ∙ set-get_or text i 0 in
    let these = subst (λ (u : List ℕ). AreAllMends (IsMendBelow u i) firsts) c.set_byte-changed.ensures.text all in
    let listed : c.deref.result.now ≡ firsts = c.deref.ensures.value in
    let P = λ (u : Unit {0}). c.push_beside.new.found.items ≡ found ++ map (beside second) c.deref.result.now in
    let Q = λ (u : Unit {0}). (set c.changed_below.new.text i (get_or text i 0) ≡ text) × AddsAllByTwo (IsTwoBy text i b) found c.push_beside.new.found.items in
    IfOk-weaker c.push_beside.result P Q
    (λ u h. (
      back,
      (map (beside second) firsts, h ∙ ap (λ (l : List Edit). found ++ map (beside second) l) listed, all_beside text i b told.0 told.1 told.2 firsts these),
    ))
    c.push_beside.ensures
