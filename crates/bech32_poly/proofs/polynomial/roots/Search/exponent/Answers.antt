use Rattle.std.proofs.Common.{◌<◌, ◌≤◌, subst, ap}
use Rattle.bech32_poly.proofs.polynomial.roots.Search.exponent.Goals as goal

pub returns-then-self : goal.returns-then-self
returns-then-self g c = (ap (λ v. v.next) c.self.view_is, subst (λ v. v.next < v.end) c.self.view_is c.if-self.true)

pub returns-else-self : goal.returns-else-self
returns-else-self g c = subst (λ v. v.end ≤ v.next) c.self.view_is c.if-self.false
