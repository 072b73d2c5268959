use Rattle.std.specs.Prelude.{option_to_list}
use Rattle.std.proofs.Common.{◌<◌, ◌≤◌, ℕ, List, length, refl, sym, subst, ◌∙◌, arith}
use Rattle.bech32_descriptor.specs.Edits.{AreAllMends, IsMendBefore}
use Rattle.bech32_descriptor.specs.Walks.{IsMendAt, IsMendOfKind, IsReady}
use Rattle.bech32_descriptor.proofs.Listings.{found_all, found_more, found_start}
use Rattle.bech32_descriptor.proofs.Told.{place_first, swapped_within}
use Rattle.bech32_descriptor.proofs.walks.push_swapped.Goals as goal

pub loop-place-init : goal.loop-place-init
loop-place-init g c = record {
  same = refl;
  kept = found_start IsMendBefore (IsMendOfKind 1 c.args.text.now) (λ e. e.place) 0 c.args.found.now.items (λ e h less. absurd (omega (arith, less)));
}

pub swapped_at-edit-requires : goal.swapped_at-edit-requires
swapped_at-edit-requires g c =
    let same = sym c.loop-place.invariant.same in
    record {
      ready = subst (λ (t : List ℕ). IsReady c.args.rows.now t c.args.word) same c.requires;
      within = subst (λ (t : List ℕ). c.loop-place.place < length t) same c.loop-place-test.true;
    }

pub loop-place-preserved : goal.loop-place-preserved
loop-place-preserved g c =
    let at = c.loop-place in
    let text = c.args.text.now in
    record {
      same = c.swapped_at-edit.ensures.text ∙ at.invariant.same;
      kept = found_more IsMendBefore (IsMendOfKind 1 text) (λ e. e.place) at.place c.args.found.now.items at.found.items c.push_some.new.found.items
          (option_to_list c.swapped_at-edit.result) (place_first 1 text) c.in_ok-push_some.ensures
          (subst (λ (t : List ℕ). AreAllMends (IsMendAt 1 t at.place) (option_to_list c.swapped_at-edit.result)) at.invariant.same c.swapped_at-edit.ensures.all)
          at.invariant.kept;
    }

pub returns : goal.returns
returns g c =
    let at = c.loop-place in
    let text = c.args.text.now in
    let end : length text ≤ at.place = omega arith in (
      at.invariant.same,
      found_all IsMendBefore (IsMendOfKind 1 text) (λ e. e.place) at.place c.args.found.now.items at.found.items
          (λ e h. let p = swapped_within text e h in omega (arith, p, end)) at.invariant.kept,
    )
