use Rattle.std.proofs.Common.{◌≡◌, ◌-◌, ◌<◌, ◌≤◌, ℕ, List, length, drop, get_or, map, sym, ap, ◌∙◌, arith}
use Rattle.std.proofs.lemmas.List.{drop_all}
use Rattle.bech32_gf.specs.Field.{Ops, value_at}
use Rattle.bech32_poly.proofs.Loops.{drop_back}
use Rattle.bech32_poly.proofs.polynomial.coefficients.evaluate_in_extension.Goals as goal

-- one more coefficient
one_more : {B K : Type 0} (o : Ops K) (embed : B → K) (x : K) (p : List B) (i : ℕ) (a : B) (sum sum' e m : K) → 0 < i → i ≤ length p
    → sum ≡ value_at o x (map embed (drop i p)) → a ≡ get_or p (i - 1) a → e ≡ embed a → m ≡ o.mul x sum → sum' ≡ o.add e m
    → sum' ≡ value_at o x (map embed (drop (i - 1) p))
one_more o embed x p i a sum sum' e m some within before read lifted product total =
    total ∙ ap (o.add e) (product ∙ ap (o.mul x) before) ∙ ap (λ u. o.add u (o.mul x (value_at o x (map embed (drop i p))))) lifted
    ∙ ap (λ u. value_at o x (map embed u)) (sym (drop_back p i a some within read))

pub loop-i-init : goal.loop-i-init
loop-i-init g c =
    let p = c.args.p.now in
    record {
      within = omega arith;
      so_far = c.zero-sum.ensures ∙ ap (λ u. value_at g.E.Arithmetic.ops c.args.x (map g.E.Extension.embed u)) (sym (drop_all (length p) p (omega arith)));
    }

pub loop-i-preserved : goal.loop-i-preserved
loop-i-preserved g c = record {
  within = omega (arith, c.loop-i.invariant.within);
  so_far = one_more g.E.Arithmetic.ops g.E.Extension.embed c.args.x c.args.p.now c.loop-i.i c.index-p-i.result c.loop-i.sum c.plus-sum.result c.lift.result c.times.result
      c.loop-i-test.true c.loop-i.invariant.within c.loop-i.invariant.so_far c.index-p-i.is c.lift.ensures c.times.ensures c.plus-sum.ensures;
}
