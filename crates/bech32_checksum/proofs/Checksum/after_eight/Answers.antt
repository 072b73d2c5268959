use Rattle.std.proofs.Common.{◌<◌, List, length, sym, subst, arith}
use Rattle.bech32_gf.specs.declared.gf32.Fe32.{Fe32 as Element}
use Rattle.bech32_poly.proofs.Appended.{appended-take_more}
use Rattle.bech32_checksum.specs.Code.{IsResidueOf}
use Rattle.bech32_checksum.proofs.Checksum.after_eight.Goals as goal

pub loop-element-preserved : goal.loop-element-preserved
loop-element-preserved g c =
    let within : c.loop-element.element-index < length c.args.elements = omega arith in
    record {
      clear = c.after_one-next.ensures.clear;
      after = λ p h.
          subst (λ (q : List Element). IsResidueOf g.Self.MidstateRepr.PackedFe32.number g.Self.Checksum.code c.after_one-next.result q)
          (sym (appended-take_more p c.args.elements c.loop-element.element-index _ within))
          (c.after_one-next.ensures.after _ (c.loop-element.invariant.after p h));
    }
