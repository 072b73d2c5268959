use Rattle.std.proofs.Common.{◌≡◌, ◌*◌, ◌+◌, ◌/◌, ℕ, suc, ◌∷◌, subst, refl, arith}
use Rattle.bech32_gf.specs.Fe32 as fe32
use Rattle.bech32_poly.specs.Pattern.{monomial}
use Rattle.bech32_checksum.specs.Code.{IsResidueOf}
use Rattle.bech32_lookup.proofs.erased.power_of_x.Goals as goal

pub loop-more-init : goal.loop-more-init
loop-more-init g c =
    let none : 8 * (c.args.location / 8) ≡ 8 * (c.args.location / 8) + 0 = omega arith in
    subst (λ n. IsResidueOf g.Ck.MidstateRepr.PackedFe32.number g.Ck.Checksum.code c.eights_of_x-power.result (monomial fe32.ops n fe32.one)) none c.eights_of_x-power.ensures

pub loop-more-preserved : goal.loop-more-preserved
loop-more-preserved g c =
    let k : ℕ = 8 * (c.args.location / 8) + c.loop-more.more in
    let more : suc (8 * (c.args.location / 8) + c.loop-more.more) ≡ 8 * (c.args.location / 8) + (c.loop-more.more + 1) = omega arith in
    let holds = IsResidueOf g.Ck.MidstateRepr.PackedFe32.number g.Ck.Checksum.code c.input_fe.new.self in
    subst (λ n. holds (monomial fe32.ops n fe32.one)) more
    (subst (λ q. holds (q ∷ monomial fe32.ops k fe32.one)) (fe32.path _ fe32.zero refl) (c.input_fe.ensures (monomial fe32.ops k fe32.one) c.loop-more.invariant))

pub returns : goal.returns
returns g c =
    let end : 8 * (c.args.location / 8) + c.loop-more.more ≡ c.args.location = omega arith in
    subst (λ n. IsResidueOf g.Ck.MidstateRepr.PackedFe32.number g.Ck.Checksum.code c.loop-more.power (monomial fe32.ops n fe32.one)) end c.loop-more.invariant
