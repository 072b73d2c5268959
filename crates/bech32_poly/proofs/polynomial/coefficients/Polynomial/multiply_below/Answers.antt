use Rattle.std.proofs.Common.{◌≡◌, length, take, ap, subst, ◌∙◌, arith}
use Rattle.bech32_poly.specs.Polynomial.{IsSamePolynomial, multiply}
use Rattle.bech32_poly.proofs.Products.{cut_product}
use Rattle.bech32_poly.proofs.polynomial.coefficients.Polynomial.multiply_below.Goals as goal

pub returns-in_err-push_products-clause-in_place : goal.returns-in_err-push_products-clause-in_place
returns-in_err-push_products-clause-in_place g c = λ fits.
    let none : length c.new-list.result ≡ 0 = ap (λ u. length u) c.new-list.ensures in
    absurd (cc (c.in_err-push_products.ensures.in_place (omega (arith, none, fits, c.min-first.ensures))))

pub returns-in_err-push_products-2-clause-in_place : goal.returns-in_err-push_products-2-clause-in_place
returns-in_err-push_products-2-clause-in_place g c = λ fits.
    let none : length c.new-list.result ≡ 0 = ap (λ u. length u) c.new-list.ensures in
    absurd (cc (c.in_err-push_products-2.ensures.in_place (omega (arith, none, fits, c.in_ok-push_products.ensures.longer, c.min-first.ensures, c.min.ensures))))

pub returns-clause-product : goal.returns-clause-product
returns-clause-product g c =
    let o = g.F.Arithmetic.ops in
    let list = c.push_products-2.new.list in
    let none : length c.new-list.result ≡ 0 = ap (λ u. length u) c.new-list.ensures in
    subst (λ p. IsSamePolynomial o list (take c.args.end (multiply o p c.args.other.now))) (c.as_slice-p.ensures ∙ c.self.view_is)
    (subst (λ q. IsSamePolynomial o list (take c.args.end (multiply o c.as_slice-p.result.now q))) (c.as_slice-q.ensures ∙ c.other.view_is)
    (cut_product g.met.F.Arithmetic.laws list c.as_slice-p.result.now c.as_slice-q.result.now c.args.end c.push_products-2.ensures.begins
    (omega (arith, none, c.in_ok-push_products.ensures.longer, c.in_ok-push_products-2.ensures.longer, c.min-first.ensures, c.min.ensures))
    (λ below. omega (arith, none, below, c.in_ok-push_products.ensures.longer, c.in_ok-push_products-2.ensures.longer, c.min-first.ensures, c.min.ensures))))

pub returns-clause-size : goal.returns-clause-size
returns-clause-size g c =
    let none : length c.new-list.result ≡ 0 = ap (λ u. length u) c.new-list.ensures in
    omega (arith, none, c.in_ok-push_products.ensures.longer, c.in_ok-push_products-2.ensures.longer, c.min-first.ensures, c.min.ensures)
