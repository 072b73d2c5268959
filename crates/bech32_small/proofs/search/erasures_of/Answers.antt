use Rattle.std.specs.List.{AllByRecursion}
use Rattle.std.proofs.Common.{◌≡◌, ◌<◌, [], length, length-set, take, inl, inr, sym, ap, ◌∙◌, subst, arith}
use Rattle.bech32_bch.specs.Erasures.{with_erasures}
use Rattle.bech32_bch.proofs.Places.{length_take}
use Rattle.bech32_lookup.proofs.Added.{all_taken}
use Rattle.bech32_small.proofs.Searched.{all_at, all_more, given_again, given_new, put_next, too_many}
use Rattle.bech32_small.proofs.search.erasures_of.Goals as goal

pub returns-then-location-window : goal.returns-then-location-window
returns-then-location-window c =
    inl (λ all. omega (arith, all_at (λ i. i < c.args.window) c.args.given.now c.loop-location.location-index c.loop-location-test.true all, c.if-location-window.true))

pub loop-location-preserved-then-contains : goal.loop-location-preserved-then-contains
loop-location-preserved-then-contains c =
    let inv = c.loop-location.invariant in
    record {
      size = inv.size;
      few = inv.few;
      below = all_more (λ i. i < c.args.window) c.args.given.now c.loop-location.location-index c.loop-location-test.true inv.below (omega (arith, c.if-location-window.false));
      so_far = given_again c.args.given.now c.loop-location.items c.loop-location.count c.loop-location.location-index c.loop-location-test.true inv.so_far
          (sym c.contains.ensures ∙ c.if-contains.true);
    }

pub returns-then-count-eq3 : goal.returns-then-count-eq3
returns-then-count-eq3 c =
    let full : length (take c.loop-location.count c.loop-location.items) ≡ 3 =
    length_take c.loop-location.items c.loop-location.count (omega (arith, c.loop-location.invariant.size, c.if-count-eq3.true)) ∙ c.if-count-eq3.true in
    inr (too_many c.args.given.now c.loop-location.items c.loop-location.count c.loop-location.location-index c.loop-location-test.true c.loop-location.invariant.so_far full
    (sym c.contains.ensures ∙ c.if-contains.false))

pub loop-location-preserved : goal.loop-location-preserved
loop-location-preserved c =
    let inv = c.loop-location.invariant in
    record {
      size = length-set c.loop-location.items c.loop-location.count _ ∙ inv.size;
      few = omega (arith, inv.few, c.if-count-eq3.false);
      below = all_more (λ i. i < c.args.window) c.args.given.now c.loop-location.location-index c.loop-location-test.true inv.below (omega (arith, c.if-location-window.false));
      so_far = put_next c.loop-location.items c.loop-location.count _ (omega (arith, inv.few, inv.size, c.if-count-eq3.false))
          ∙ given_new c.args.given.now c.loop-location.items c.loop-location.count c.loop-location.location-index c.loop-location-test.true inv.so_far
          (sym c.contains.ensures ∙ c.if-contains.false);
    }

pub returns : goal.returns
returns c =
    let inv = c.loop-location.invariant in
    let all : take c.loop-location.location-index c.args.given.now ≡ c.args.given.now =
    all_taken c.args.given.now c.loop-location.location-index (omega (arith, c.loop-location-test.false)) in (
      subst (AllByRecursion (λ i. i < c.args.window)) all inv.below,
      inv.so_far ∙ ap (with_erasures []) all,
    )
