use Rattle.std.proofs.Common.{length, ap, arith}
use Rattle.bech32_near.proofs.search.gathering.are_few.Goals as goal

pub returns-clause-few : goal.returns-clause-few
returns-clause-few g c = (
  λ h. omega (arith, c.fits.ensures.0 h, ap (λ u. length u) c.erasures-erased.ensures.value, c.singleton_bound-bound.ensures.value),
  λ few. c.fits.ensures.1 (omega (arith, few, ap (λ u. length u) c.erasures-erased.ensures.value, c.singleton_bound-bound.ensures.value)),
)
