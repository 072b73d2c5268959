use Rattle.std.proofs.Common.{ℕ, replicate, add-one, subst, sym}
use Rattle.bech32_checksum.specs.Code.{IsResidueOf}
use Rattle.bech32_near.proofs.edits.powers.engine_with.Goals as goal

pub loop-i-preserved : goal.loop-i-preserved
loop-i-preserved g c =
    subst (λ (n : ℕ). IsResidueOf g.Ck.MidstateRepr.PackedFe32.number g.Ck.Checksum.code c.input_fe.new.self (replicate n c.args.element)) (sym (add-one c.loop-i._i))
    (c.input_fe.ensures _ c.loop-i.invariant)
