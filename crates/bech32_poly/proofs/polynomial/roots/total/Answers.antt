use Rattle.std.proofs.Common.{◌≡◌, ◌-◌, ◌<◌, ◌≤◌, ℕ, List, length, drop, get_or, sym, ap, ◌∙◌, arith}
use Rattle.std.proofs.lemmas.List.{drop_all}
use Rattle.bech32_gf.specs.Field.{Ops}
use Rattle.bech32_poly.specs.RootSearch.{total_of}
use Rattle.bech32_poly.proofs.Loops.{drop_back}
use Rattle.bech32_poly.proofs.polynomial.roots.total.Goals as goal

-- one more element
one_more : {K : Type 0} (o : Ops K) (xs : List K) (i : ℕ) (x sum sum' : K) → 0 < i → i ≤ length xs → sum ≡ total_of o (drop i xs) → x ≡ get_or xs (i - 1) x
    → sum' ≡ o.add x sum → sum' ≡ total_of o (drop (i - 1) xs)
one_more o xs i x sum sum' some within before read added = added ∙ ap (o.add x) before ∙ ap (total_of o) (sym (drop_back xs i x some within read))

pub loop-i-init : goal.loop-i-init
loop-i-init g c =
    let xs = c.args.items.now in
    record {
      within = omega arith;
      so_far = c.zero-sum.ensures ∙ ap (total_of g.F.Arithmetic.ops) (sym (drop_all (length xs) xs (omega arith)));
    }

pub loop-i-preserved : goal.loop-i-preserved
loop-i-preserved g c = record {
  within = omega (arith, c.loop-i.invariant.within);
  so_far = one_more g.F.Arithmetic.ops c.args.items.now c.loop-i.i c.index-items-i.result c.loop-i.sum c.plus-sum.result
      c.loop-i-test.true c.loop-i.invariant.within c.loop-i.invariant.so_far c.index-items-i.is c.plus-sum.ensures;
}
