use Rattle.std.proofs.Common.{◌≡◌, ◌+◌, ℕ, suc, ◌∷◌, subst, sym, refl, arith}
use Rattle.bech32_gf.specs.Fe32 as fe32
use Rattle.bech32_poly.specs.Pattern.{monomial}
use Rattle.bech32_checksum.specs.Code.{IsResidueOf, bech32m}
use Rattle.bech32_small.proofs.rows.power_of_x.Goals as goal

pub loop-more-preserved : goal.loop-more-preserved
loop-more-preserved c =
    let k : ℕ = c.loop-more.more in
    let more : suc c.loop-more.more ≡ c.loop-more.more + 1 = omega arith in
    let holds = IsResidueOf (λ (n : ℕ). n) bech32m c.input_fe.new.self in
    subst (λ n. holds (monomial fe32.ops n fe32.one)) more
    (subst (λ q. holds (q ∷ monomial fe32.ops k fe32.one)) (fe32.path _ fe32.zero refl) (c.input_fe.ensures (monomial fe32.ops k fe32.one) c.loop-more.invariant))

pub returns-clause-power : goal.returns-clause-power
returns-clause-power c =
    let end : c.loop-more.more ≡ c.args.location = omega arith in
    subst (λ r. IsResidueOf (λ (n : ℕ). n) bech32m r (monomial fe32.ops c.args.location fe32.one)) (sym c.residue.ensures.value)
    (subst (λ n. IsResidueOf (λ (n : ℕ). n) bech32m c.loop-more.power (monomial fe32.ops n fe32.one)) end c.loop-more.invariant)
