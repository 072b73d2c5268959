use Rattle.std.proofs.Common.{replicate, subst, refl}
use Rattle.bech32_gf.specs.Fe32 as fe32
use Rattle.bech32_gf.specs.declared.gf32.Fe32.{Fe32 as Element}
use Rattle.bech32_checksum.specs.Code.{IsResidueOf}
use Rattle.bech32_near.proofs.edits.powers.Powers.new.Goals as goal

pub returns : goal.returns
returns g c =
    let number = g.Ck.MidstateRepr.PackedFe32.number in
    let code = g.Ck.Checksum.code in
    let n = c.args.count in record {
      of_one = subst (λ (x : Element). IsResidueOf number code c.engine_with.result (replicate n x)) (fe32.path _ (fe32.element 1) refl) c.engine_with.ensures;
      of_two = subst (λ (x : Element). IsResidueOf number code c.engine_with-2.result (replicate n x)) (fe32.path _ (fe32.element 2) refl) c.engine_with-2.ensures;
      of_four = subst (λ (x : Element). IsResidueOf number code c.engine_with-3.result (replicate n x)) (fe32.path _ (fe32.element 4) refl) c.engine_with-3.ensures;
      of_eight = subst (λ (x : Element). IsResidueOf number code c.engine_with-4.result (replicate n x)) (fe32.path _ (fe32.element 8) refl) c.engine_with-4.ensures;
      of_sixteen = subst (λ (x : Element). IsResidueOf number code c.engine_with-5.result (replicate n x)) (fe32.path _ (fe32.element 16) refl) c.engine_with-5.ensures;
    }
