use Rattle.std.proofs.Common.{replicate, subst, refl}
use Rattle.bech32_gf.specs.Fe32 as fe32
use Rattle.bech32_checksum.specs.Code.{IsResidueOf}
use Rattle.bech32_near.proofs.Sums.{raised-next}
use Rattle.bech32_near.proofs.edits.powers.Powers.raise.Goals as goal

pub returns : goal.returns
returns g c n count h =
    let number = g.Ck.MidstateRepr.PackedFe32.number in
    let code = g.Ck.Checksum.code in record {
      of_one = subst (IsResidueOf number code c.input_fe.new.self) (raised-next n _ (replicate count (fe32.element 1)) (fe32.path _ fe32.zero refl)) (c.input_fe.ensures _ h.of_one);
      of_two = subst (IsResidueOf number code c.input_fe-2.new.self) (raised-next n _ (replicate count (fe32.element 2)) (fe32.path _ fe32.zero refl)) (c.input_fe-2.ensures _ h.of_two);
      of_four = subst (IsResidueOf number code c.input_fe-3.new.self) (raised-next n _ (replicate count (fe32.element 4)) (fe32.path _ fe32.zero refl)) (c.input_fe-3.ensures _ h.of_four);
      of_eight = subst (IsResidueOf number code c.input_fe-4.new.self) (raised-next n _ (replicate count (fe32.element 8)) (fe32.path _ fe32.zero refl)) (c.input_fe-4.ensures _ h.of_eight);
      of_sixteen = subst (IsResidueOf number code c.input_fe-5.new.self) (raised-next n _ (replicate count (fe32.element 16)) (fe32.path _ fe32.zero refl)) (c.input_fe-5.ensures _ h.of_sixteen);
    }
