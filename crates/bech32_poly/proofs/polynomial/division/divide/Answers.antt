use Rattle.std.proofs.Common.{◌≡◌, ◌-◌, ◌<◌, ◌≤◌, ℕ, List, length, drop, get_or, sym, ap, ◌∙◌, arith}
use Rattle.std.proofs.lemmas.List.{drop_all}
use Rattle.bech32_gf.specs.Field.{Ops}
use Rattle.bech32_poly.specs.Division.{step, remainder_of}
use Rattle.bech32_poly.proofs.LongDivision.{divided_all}
use Rattle.bech32_poly.proofs.Loops.{drop_back}
use Rattle.bech32_poly.proofs.Remainder.{length-remainder_of}
use Rattle.bech32_poly.proofs.polynomial.division.divide.Goals as goal

-- one more coefficient
one_more : {F : Type 0} (o : Ops F) (low p rest rest' : List F) (i : ℕ) (x : F) → 0 < i → i ≤ length p → rest ≡ remainder_of o low (drop i p) → x ≡ get_or p (i - 1) x
    → rest' ≡ step o low rest x → rest' ≡ remainder_of o low (drop (i - 1) p)
one_more o low p rest rest' i x some within before read taken =
    taken ∙ ap (λ u. step o low u x) before ∙ ap (remainder_of o low) (sym (drop_back p i x some within read))

pub loop-i-init : goal.loop-i-init
loop-i-init g c =
    let p = c.args.polynomial.now in
    record {
      within = omega arith;
      so_far = c.requires ∙ ap (remainder_of g.F.Arithmetic.ops c.args.low.now) (sym (drop_all (length p) p (omega arith)));
    }

pub take_in-requires : goal.take_in-requires
take_in-requires g c =
    sym (ap (λ u. length u) c.loop-i.invariant.so_far ∙ length-remainder_of g.met.F.Arithmetic.laws c.args.low.now (drop c.loop-i.i c.args.polynomial.now))

pub loop-i-preserved : goal.loop-i-preserved
loop-i-preserved g c = record {
  within = omega (arith, c.loop-i.invariant.within);
  so_far = one_more g.F.Arithmetic.ops c.args.low.now c.args.polynomial.now c.loop-i.rest c.take_in.new.rest c.loop-i.i c.index-polynomial-i.result
      c.loop-i-test.true c.loop-i.invariant.within c.loop-i.invariant.so_far c.index-polynomial-i.is c.take_in.ensures;
}

pub returns : goal.returns
returns g c =
    let done : c.loop-i.i ≡ 0 = omega arith in
    divided_all g.met.F.Arithmetic.laws c.args.low.now c.args.polynomial.now c.loop-i.rest c.loop-i.i done c.loop-i.invariant.so_far
