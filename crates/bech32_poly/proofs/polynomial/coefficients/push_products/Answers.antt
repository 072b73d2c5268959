use Rattle.std.proofs.Common.{◌≡◌, ◌<◌, ℕ, [], ◌∷◌, length, subst, sym, ap, ◌∙◌, arith}
use Rattle.std.proofs.lemmas.List.{length-append}
use Rattle.bech32_poly.specs.Polynomial.{coefficient, multiply}
use Rattle.bech32_poly.proofs.Products.{begins_more}
use Rattle.bech32_poly.proofs.polynomial.coefficients.push_products.Goals as goal

pub loop-preserved : goal.loop-preserved
loop-preserved g c =
    let o = g.F.Arithmetic.ops in
    let m = multiply o c.args.p.now c.args.q.now in
    let next = c.product_coefficient-next.result in
    record {
      longer = ap (λ u. length u) c.in_ok-push.ensures.ok ∙ length-append c.loop.list (next ∷ []) ∙ omega (arith, c.loop.invariant.longer);
      begins = subst (λ u. (n : ℕ) → n < length u → coefficient o u n ≡ coefficient o m n) (sym c.in_ok-push.ensures.ok)
          (begins_more o c.loop.list m next c.loop.invariant.begins (c.product_coefficient-next.ensures ∙ ap (coefficient o m) c.len.ensures));
    }
