use Rattle.std.proofs.Common.{◌≡◌, ◌+◌, suc, get_or, ap, subst, ◌∙◌, arith}
use Rattle.bech32_gf.specs.Fe32 as fe32
use Rattle.bech32_gf.specs.laws.Fe32Laws.{is_field}
use Rattle.bech32_poly.specs.Polynomial.{coefficient}
use Rattle.bech32_bch.proofs.Loops.{get_any}
use Rattle.bech32_lookup.specs.Equations.{weighted}
use Rattle.bech32_lookup.proofs.Elimination.{weighted_one}
use Rattle.bech32_lookup.proofs.erased.weighted_sum.Goals as goal

pub loop-i-init : goal.loop-i-init
loop-i-init c =
    get_any c.args.factors.now 0 c.index-factors-0.result fe32.zero (omega arith)
    ∙ weighted_one is_field (coefficient fe32.ops c.args.values.now) (coefficient fe32.ops c.args.factors.now) c.requires.one

pub loop-i-preserved : goal.loop-i-preserved
loop-i-preserved c =
    let value = coefficient fe32.ops c.args.values.now in
    let factor = coefficient fe32.ops c.args.factors.now in
    let more : suc c.loop-i.i ≡ c.loop-i.i + 1 = omega arith in
    subst (λ n. c.add-sum.result ≡ weighted fe32.ops value factor n) more
    (c.add-sum.ensures ∙ ap (λ s. fe32.add s c.mul.result) c.loop-i.invariant ∙ ap (fe32.add (weighted fe32.ops value factor c.loop-i.i))
    (c.mul.ensures
    ∙ ap (λ x. fe32.mul x (get_or c.args.factors.now c.loop-i.i c.index-factors-i.result)) (get_any c.args.values.now c.loop-i.i c.index-values-i.result fe32.zero (omega (arith, c.requires.most)))
    ∙ ap (fe32.mul (coefficient fe32.ops c.args.values.now c.loop-i.i)) (get_any c.args.factors.now c.loop-i.i c.index-factors-i.result fe32.zero (omega (arith, c.requires.most)))))

pub returns : goal.returns
returns c =
    let end : c.loop-i.i ≡ c.args.count = omega arith in
    subst (λ n. c.loop-i.sum ≡ weighted fe32.ops (coefficient fe32.ops c.args.values.now) (coefficient fe32.ops c.args.factors.now) n) end c.loop-i.invariant
