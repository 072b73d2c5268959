use Rattle.std.proofs.Common.{◌≡◌, ◌+◌, ℕ, suc, length, [], ◌∷◌, ◌++◌, arith, sym, ap, ◌∙◌}
use Rattle.std.proofs.lemmas.List.{length-append}
use Rattle.bech32_gf.specs.Field.{power}
use Rattle.bech32_poly.specs.Polynomial.{coefficient}
use Rattle.bech32_poly.specs.Embedding.{value_in}
use Rattle.bech32_bch.proofs.Loops.{items_more}
use Rattle.bech32_bch.proofs.syndromes.syndromes.Goals as goal

pub loop-init : goal.loop-init
loop-init g c =
    let none : length c.new-list.result ≡ 0 = ap (λ u. length u) c.new-list.ensures in
    let place : c.args.start + 0 ≡ c.args.start = omega arith in
    record {
      so_far = record { size = none; values = λ t h. absurd (omega (arith, h)) };
      next = c.power-x.ensures ∙ ap (power g.E.Arithmetic.ops c.args.base) (sym place);
    }

pub loop-preserved : goal.loop-preserved
unfolding power
loop-preserved g c =
    let o = g.E.Arithmetic.ops in
    let n : ℕ = c.loop.counter in
    let y = c.evaluate_in_extension.result in
    let items : c.push.new.self ≡ c.loop.list ++ (y ∷ []) = c.in_ok-push.ensures.ok in
    let next : c.args.start + (n + 1) ≡ suc (c.args.start + n) = omega arith in
    let here : y ≡ value_in o g.E.Extension.embed c.args.residue.now (power o c.args.base (c.args.start + n)) = c.evaluate_in_extension.ensures ∙ ap (value_in o g.E.Extension.embed c.args.residue.now) c.loop.invariant.next in
    record {
      so_far = record {
        size = omega (arith, ap (λ u. length u) items, length-append c.loop.list (y ∷ []), c.loop.invariant.so_far.size);
        values = λ t within. ap (λ u. coefficient o u t) items ∙ items_more o c.loop.list n (λ j. value_in o g.E.Extension.embed c.args.residue.now (power o c.args.base (c.args.start + j))) y c.loop.invariant.so_far.size c.loop.invariant.so_far.values here t within;
      };
      next = c.times-x.ensures ∙ ap (o.mul c.args.base) c.loop.invariant.next ∙ ap (power o c.args.base) (sym next);
    }

pub returns-in_err-push-clause-in_place : goal.returns-in_err-push-clause-in_place
returns-in_err-push-clause-in_place g c = λ fits.
    absurd (cc (c.in_err-push.ensures.in_place (omega (arith, c.loop.invariant.so_far.size, fits))))

pub returns-clause-size : goal.returns-clause-size
returns-clause-size g c = omega (arith, c.loop.invariant.so_far.size)
