use Rattle.std.proofs.Common.{◌≡◌, ℕ, length, [], ◌∷◌, ◌++◌, sym, ap, ◌∙◌, arith}
use Rattle.bech32_gf.specs.Powers.{powers_of}
use Rattle.bech32_gf.specs.laws.FieldLaws.{power-zero}
use Rattle.bech32_poly.proofs.RootTerms.{length-powers, power_next, powers-more}
use Rattle.bech32_poly.proofs.polynomial.roots.first_powers.Goals as goal

pub loop-init : goal.loop-init
loop-init g c = record {
  powers_are = c.new-powers.ensures;
  power_is = c.one-power.ensures ∙ sym (power-zero g.met.F.Arithmetic.laws _);
}

pub loop-preserved : goal.loop-preserved
loop-preserved g c =
    let o = g.F.Arithmetic.ops in
    let n : ℕ = c.loop.counter in
    record {
      powers_are = c.in_ok-push.ensures.ok ∙ ap (λ u. u ++ (c.loop.power ∷ [])) c.loop.invariant.powers_are
          ∙ ap (λ x. powers_of o c.args.base 0 n ++ (x ∷ [])) c.loop.invariant.power_is ∙ sym (powers-more g.met.F.Arithmetic.laws c.args.base n);
      power_is = power_next g.met.F.Arithmetic.laws c.args.base c.loop.power c.times-power.result n c.loop.invariant.power_is c.times-power.ensures;
    }

pub returns-in_err-push-clause-in_place : goal.returns-in_err-push-clause-in_place
returns-in_err-push-clause-in_place g c = λ fits.
    let size : length c.loop.powers ≡ c.loop.counter = ap (λ u. length u) c.loop.invariant.powers_are ∙ length-powers g.met.F.Arithmetic.laws c.args.base c.loop.counter in
    absurd (cc (c.in_err-push.ensures.in_place (omega (arith, size, fits))))
