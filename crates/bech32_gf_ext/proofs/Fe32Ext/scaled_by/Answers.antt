use Rattle.std.proofs.Common.{◌<◌, ◌≤◌, ◌∙◌, ◌++◌, ap, sym, arith, length, map, set}
use Rattle.std.proofs.lemmas.List.Edits.{map_over_more}
use Rattle.std.proofs.lemmas.List.{take_all, drop_all, append-nil}
use Rattle.bech32_gf.specs.Fe32 as fe32
use Rattle.bech32_gf_ext.specs.Fe32Ext.{path, scaled}
use Rattle.bech32_gf.specs.declared.gf32.Fe32.{Fe32}
use Rattle.bech32_gf_ext.proofs.Fe32Ext.scaled_by.Goals as goal

pub loop-i-preserved : goal.loop-i-preserved
loop-i-preserved g c =
    let f = λ (b : Fe32). fe32.mul b c.args.factor in
    let within : c.loop-i.i < length c.args.self.inner = omega (arith, c.args.self.full) in
    ap (set c.loop-i.coefficients c.loop-i.i) (c.mul.ensures ∙ ap f (sym c.index-coefficients-i.is))
    ∙ map_over_more f c.args.self.inner c.loop-i.coefficients c.loop-i.i c.index-coefficients-i.result within c.loop-i.invariant c.index-coefficients-i.is

pub returns : goal.returns
unfolding scaled
returns g c =
    let f = λ (b : Fe32). fe32.mul b c.args.factor in
    let all : length c.args.self.inner ≤ c.loop-i.i = omega (arith, c.args.self.full) in
    path _ (scaled c.args.self c.args.factor)
    (c.loop-i.invariant
    ∙ (λ i. map f (take_all c.loop-i.i c.args.self.inner all i) ++ drop_all c.loop-i.i c.args.self.inner all i)
    ∙ append-nil (map f c.args.self.inner))
