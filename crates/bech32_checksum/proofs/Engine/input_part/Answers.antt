use Rattle.std.proofs.Common.{◌∙◌, ◌/◌, ◌∷◌, List, ℕ, map, ap, sym, subst, refl}
use Rattle.bech32_gf.specs.Fe32 as fe32
use Rattle.bech32_gf.specs.declared.gf32.Fe32.{Fe32 as Element}
use Rattle.bech32_poly.specs.Polynomial.{appended}
use Rattle.bech32_poly.proofs.Appended.{appended-append}
use Rattle.bech32_checksum.specs.Code.{IsResidueOf}
use Rattle.bech32_hrp.specs.Hrp.{lowered}
use Rattle.bech32_checksum.proofs.Engine.input_part.Goals as goal

pub returns : goal.returns
returns g c p h =
    let high = map (λ (b : ℕ). fe32.element (b / 32)) (lowered c.args.part.now) in
    let low = map fe32.element (lowered c.args.part.now) in
    let first = c.input_high_bits.ensures p h in
    let second = c.input_fe.ensures (appended p high) first in
    let third = c.input_low_bits.ensures _ second in
    let same = ap (λ (e : Element). appended (e ∷ appended p high) low) (fe32.path _ fe32.zero refl) ∙ sym (appended-append p high (fe32.zero ∷ low)) in
    subst (λ (r : List Element). IsResidueOf g.Ck.MidstateRepr.PackedFe32.number g.Ck.Checksum.code c.input_low_bits.new.self r) same third
