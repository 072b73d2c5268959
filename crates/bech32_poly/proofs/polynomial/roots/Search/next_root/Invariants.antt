use Rattle.std.proofs.Common.{◌≡◌, ◌-◌}
use Rattle.bech32_poly.specs.RootSearch.{left_of}
use Rattle.bech32_poly.proofs.polynomial.roots.Search.next_root.Given as goal

abbrev pub invariant-loop-exponent : goal.invariant-loop-exponent
invariant-loop-exponent g l = left_of g.E.Arithmetic.ops g.E.Arithmetic.same l.self ≡ left_of g.E.Arithmetic.ops g.E.Arithmetic.same l.fn.self

abbrev pub decreases-loop-exponent : goal.decreases-loop-exponent
decreases-loop-exponent g l = l.self.end - l.self.next
