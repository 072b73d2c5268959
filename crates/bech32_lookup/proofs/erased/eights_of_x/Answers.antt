use Rattle.std.proofs.Common.{◌≡◌, ◌*◌, ◌+◌, ℕ, subst, arith}
use Rattle.bech32_gf.specs.Fe32 as fe32
use Rattle.bech32_poly.specs.Pattern.{monomial}
use Rattle.bech32_checksum.specs.Code.{IsResidueOf}
use Rattle.bech32_lookup.proofs.Powers.{appended-zeros}
use Rattle.bech32_lookup.proofs.erased.eights_of_x.Goals as goal

pub loop-eight-preserved : goal.loop-eight-preserved
loop-eight-preserved g c =
    let k : ℕ = 8 * c.loop-eight.eight in
    let more : 8 * c.loop-eight.eight + 8 ≡ 8 * (c.loop-eight.eight + 1) = omega arith in
    let holds = IsResidueOf g.Ck.MidstateRepr.PackedFe32.number g.Ck.Checksum.code c.input_eight.new.self in
    subst (λ n. holds (monomial fe32.ops n fe32.one)) more
    (subst holds (appended-zeros k 8 _) (c.input_eight.ensures (monomial fe32.ops k fe32.one) c.loop-eight.invariant))

pub returns : goal.returns
returns g c =
    let end : c.loop-eight.eight ≡ c.args.eights = omega arith in
    subst (λ n. IsResidueOf g.Ck.MidstateRepr.PackedFe32.number g.Ck.Checksum.code c.loop-eight.power (monomial fe32.ops (8 * n) fe32.one)) end c.loop-eight.invariant
