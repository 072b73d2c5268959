use Rattle.std.proofs.Common.{◌≡◌, ◌+◌, ℕ, [], ◌∷◌, ◌++◌, take, reverse, sym, ap, ◌∙◌}
use Rattle.std.proofs.lemmas.List.{take_all, take_more}
use Rattle.bech32_gf.specs.Field.{Ops}
use Rattle.bech32_gf.specs.Fe32 as fe32
use Rattle.bech32_gf.specs.declared.gf32.Fe32.{Fe32}
use Rattle.bech32_poly.specs.Embedding.{value_in}
use Rattle.bech32_poly.specs.Remainder.{monic}
use Rattle.bech32_block.proofs.RootList.{value_start, value_next}
use Rattle.bech32_block.proofs.roots.generator_at.Goals as goal

pub loop-coefficient-init : goal.loop-coefficient-init
loop-coefficient-init g c =
    let same : g.E.Extension.base_ops ≡ fe32.ops = g.met.E.ExtensionField.base_law in
    let one : g.E.Extension.embed fe32.one ≡ g.E.Arithmetic.ops.one = ap (λ (o : Ops Fe32). g.E.Extension.embed o.one) (sym same) ∙ g.met.E.Extension.embed_one_law in
    value_start g.met.E.Arithmetic.laws g.E.Extension.embed c.args.x c.ONE-value.result (c.ONE-value.ensures ∙ g.met.E.Field.one_law) one

pub loop-coefficient-preserved : goal.loop-coefficient-preserved
loop-coefficient-preserved g c =
    let whole = c.args.generator.now in
    let i : ℕ = c.loop-coefficient.coefficient-index in
    let item = c.coefficient-item.result in
    let more : take (i + 1) whole ≡ take i whole ++ (item ∷ []) = take_more whole i item c.loop-coefficient-test.true ∙ ap (λ y. take i whole ++ (y ∷ [])) (sym c.coefficient-item.is) in
    g.met.E.Field.add_law _ _ _ c.add-value.ensures
    ∙ value_next g.met.E.Arithmetic.laws g.E.Extension.embed (take i whole) (take (i + 1) whole) item c.args.x c.loop-coefficient.value c.from.result c.mul.result more c.loop-coefficient.invariant (g.met.E.ExtensionField.from_law _ _ c.from.ensures) (g.met.E.Field.mul_law _ _ _ c.mul.ensures)

pub returns : goal.returns
returns g c =
    c.loop-coefficient.invariant
    ∙ ap (λ ws. value_in g.E.Arithmetic.ops g.E.Extension.embed (monic fe32.ops (reverse ws)) c.args.x) (take_all c.loop-coefficient.coefficient-index c.args.generator.now c.loop-coefficient-test.false)
