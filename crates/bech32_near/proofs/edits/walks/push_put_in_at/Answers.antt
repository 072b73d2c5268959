use Rattle.std.specs.Prelude.{option_to_list}
use Rattle.std.proofs.Common.{◌≡◌, ◌<◌, ◌≤◌, ◌∙◌, ℕ, subst, ap, arith}
use Rattle.std.proofs.Math.Nat.{mod-eq_of_lt}
use Rattle.std.proofs.lemmas.Result.{err_from_is_err_and}
use Rattle.bech32_gf.specs.Fe32.{elements_of}
use Rattle.bech32_gf.specs.declared.gf32.Fe32.{Fe32 as Element}
use Rattle.bech32_near.specs.edits.Edits.{AreAllOf, value_put}
use Rattle.bech32_near.specs.edits.Walks.{IsAcceptedAt, IsAcceptedValue}
use Rattle.bech32_near.proofs.Kept.{found_all, found_more, some_kept}
use Rattle.bech32_near.proofs.Verdicts.{value_first, value_small}
use Rattle.bech32_near.proofs.edits.walks.push_put_in_at.Goals as goal

pub returns-in_err-push_some : goal.returns-in_err-push_some
returns-in_err-push_some g c hrp room word powers =
    let old = elements_of c.args.characters.now in
    let (e, (((k, a), at), v)) = some_kept (IsAcceptedValue g.Ck.Checksum.code hrp old c.args.location c.from_low_bits-element.result.value) c.put_in_at.result c.in_err-push_some.ensures
    (c.put_in_at.ensures hrp room word powers) in
    let p = err_from_is_err_and c.from_residual.result c.from_residual.ensures.1 in
    rw p.1 (e, a)

pub loop-value-preserved : goal.loop-value-preserved
loop-value-preserved g c hrp room word powers =
    let at = c.loop-value in
    let code = g.Ck.Checksum.code in
    let old = elements_of c.args.characters.now in
    let here = c.args.location in
    let small : at.value < 32 = omega arith in
    let value : c.from_low_bits-element.result.value ≡ at.value = ap (λ (x : Element). x.value) c.from_low_bits-element.ensures ∙ mod-eq_of_lt small in
    found_more (IsAcceptedAt 2 code hrp old here) (λ e. value_put e.change) at.value c.args.found.now.items at.found.items c.push_some.new.found.items (option_to_list c.put_in_at.result)
    (value_first 2 code hrp old here) c.in_ok-push_some.ensures
    (subst (λ (n : ℕ). AreAllOf (IsAcceptedValue code hrp old here n) (option_to_list c.put_in_at.result)) value (c.put_in_at.ensures hrp room word powers))
    (at.invariant hrp room word powers)

pub returns : goal.returns
returns g c hrp room word powers =
    let at = c.loop-value in
    let code = g.Ck.Checksum.code in
    let old = elements_of c.args.characters.now in
    let end : 32 ≤ at.value = omega arith in
    found_all (IsAcceptedAt 2 code hrp old c.args.location) (λ e. value_put e.change) at.value c.args.found.now.items at.found.items
    (λ e h. let low = value_small e.change in omega (arith, low, end)) (at.invariant hrp room word powers)
