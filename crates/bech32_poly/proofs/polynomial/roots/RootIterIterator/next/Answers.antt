use Rattle.std.proofs.Common.{subst}
use Rattle.std.specs.Iterator.{YieldsFirst}
use Rattle.bech32_poly.specs.RootSearch.{left_of}
use Rattle.bech32_poly.proofs.polynomial.roots.RootIterIterator.next.Goals as goal

pub returns-clause-steps : goal.returns-clause-steps
returns-clause-steps g c =
    subst (λ v. YieldsFirst (λ left. left) v c.next_root.result (left_of g.E.Arithmetic.ops g.E.Arithmetic.same c.next_root.new.self)) c.self.view_is c.next_root.ensures
