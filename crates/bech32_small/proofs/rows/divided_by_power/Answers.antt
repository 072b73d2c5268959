use Rattle.std.proofs.Common.{◌≡◌, ◌+◌, ℕ, suc, ◌∷◌, subst, sym, arith}
use Rattle.bech32_gf.specs.Fe32.{ops, zero}
use Rattle.bech32_poly.specs.Division.{zeros}
use Rattle.bech32_poly.specs.Polynomial.{appended}
use Rattle.bech32_checksum.specs.Code.{IsResidueOf, bech32m}
use Rattle.bech32_small.proofs.rows.divided_by_power.Goals as goal

pub loop-more-init : goal.loop-more-init
loop-more-init c = record { clear = c.requires; after = λ p h. h; before = λ p h. h }

pub loop-more-preserved : goal.loop-more-preserved
loop-more-preserved c =
    let k : ℕ = c.loop-more.more in
    let more : suc c.loop-more.more ≡ c.loop-more.more + 1 = omega arith in
    record {
      clear = c.divided_by_x-row.ensures.clear;
      after = λ p h. subst (λ n. IsResidueOf (λ (n : ℕ). n) bech32m c.args.row (appended p (zeros ops n))) more
          (c.loop-more.invariant.after (zero ∷ p) (c.divided_by_x-row.ensures.after p h));
      before = λ p h. c.divided_by_x-row.ensures.before p (c.loop-more.invariant.before (zero ∷ p)
          (subst (λ n. IsResidueOf (λ (n : ℕ). n) bech32m c.args.row (appended p (zeros ops n))) (sym more) h));
    }

pub returns-clause-after : goal.returns-clause-after
returns-clause-after c p h =
    let end : c.loop-more.more ≡ c.args.power = omega arith in
    subst (λ n. IsResidueOf (λ (n : ℕ). n) bech32m c.args.row (appended p (zeros ops n))) end (c.loop-more.invariant.after p h)

pub returns-clause-before : goal.returns-clause-before
returns-clause-before c p h =
    let end : c.args.power ≡ c.loop-more.more = omega arith in
    c.loop-more.invariant.before p (subst (λ n. IsResidueOf (λ (n : ℕ). n) bech32m c.args.row (appended p (zeros ops n))) end h)
