use Rattle.std.proofs.Common.{◌∷◌, sym, ap, ◌∙◌}
use Rattle.bech32_poly.specs.RootSearch.{left_of}
use Rattle.bech32_poly.proofs.RootTerms.{stepped_found, stepped_missed}
use Rattle.bech32_poly.proofs.polynomial.roots.Search.next_root.Goals as goal

pub returns-then-step : goal.returns-then-step
returns-then-step g c =
    sym c.loop-exponent.invariant
    ∙ stepped_found g.met.E.Arithmetic.laws g.E.Arithmetic.same c.loop-exponent.self c.step.new.self c.step.result c.if-step.true c.in-Some.ensures.1
    c.step.ensures.found c.step.ensures.terms c.step.ensures.factors c.step.ensures.next c.step.ensures.end
    ∙ ap (λ k. k ∷ left_of g.E.Arithmetic.ops g.E.Arithmetic.same c.step.new.self) (sym c.in-Some.ensures.0)

pub loop-exponent-preserved : goal.loop-exponent-preserved
loop-exponent-preserved g c =
    sym (stepped_missed g.met.E.Arithmetic.laws g.E.Arithmetic.same c.loop-exponent.self c.step.new.self c.step.result c.if-step.false c.in-Some.ensures.1
    c.step.ensures.found c.step.ensures.terms c.step.ensures.factors c.step.ensures.next c.step.ensures.end)
    ∙ c.loop-exponent.invariant
