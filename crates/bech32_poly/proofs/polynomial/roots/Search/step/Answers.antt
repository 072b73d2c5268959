use Rattle.std.proofs.Common.{◌+◌, ◌<◌, length, subst, sym, ap, ◌∙◌, arith}
use Rattle.bech32_poly.specs.RootSearch.{value_after, total_of, multiplied_each}
use Rattle.bech32_poly.proofs.RootTerms.{value_after-now, length-multiplied_each}
use Rattle.bech32_poly.proofs.polynomial.roots.Search.step.Goals as goal

pub invariant_of-self : goal.invariant_of-self
invariant_of-self g c =
    c.self.invariant
    ∙ sym (length-multiplied_each g.met.E.Arithmetic.laws c.self.inside.terms c.self.inside.factors)
    ∙ ap (λ u. length u) (sym (c.multiply_each.ensures ∙ ap (multiplied_each g.E.Arithmetic.ops c.self.inside.terms) c.as_slice-2.ensures))

pub returns-clause-found : goal.returns-clause-found
returns-clause-found g c =
    let o = g.E.Arithmetic.ops in
    let same = g.E.Arithmetic.same in
    c.equals-is_root.ensures
    ∙ ap (λ x. same x c.zero.result) (c.total.ensures ∙ ap (total_of o) c.as_slice.ensures ∙ sym (value_after-now g.met.E.Arithmetic.laws c.self.inside.terms c.self.inside.factors c.self.invariant))
    ∙ ap (same (value_after o c.self.inside.terms c.self.inside.factors 0)) c.zero.ensures
    ∙ ap (λ v. same (value_after o v.terms v.factors 0) o.zero) c.self.view_is

pub overflow_add-self : goal.overflow_add-self
overflow_add-self g c =
    let more : c.self.inside.next < c.self.inside.end = subst (λ v. v.next < v.end) (sym c.self.view_is) c.requires in
    omega (arith, more)

pub returns-clause-terms : goal.returns-clause-terms
returns-clause-terms g c =
    let o = g.E.Arithmetic.ops in
    c.multiply_each.ensures ∙ ap (multiplied_each o c.self.inside.terms) c.as_slice-2.ensures ∙ ap (λ v. multiplied_each o v.terms v.factors) c.self.view_is

pub returns-clause-factors : goal.returns-clause-factors
returns-clause-factors g c = ap (λ v. v.factors) c.self.view_is

pub returns-clause-next : goal.returns-clause-next
returns-clause-next g c = ap (λ v. v.next + 1) c.self.view_is

pub returns-clause-end : goal.returns-clause-end
returns-clause-end g c = ap (λ v. v.end) c.self.view_is
