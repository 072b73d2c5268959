use Rattle.std.proofs.Common.{◌≡◌, ◌<◌, ◌≤◌, ℕ, List, length, inl, inr, refl, sym, ap, subst, ◌∙◌, arith}
use Rattle.std.proofs.lemmas.Bool.{cases_lt}
use Rattle.bech32_descriptor.specs.PairWalks.{IsTwoAt, MarksChanges, MarksChangesBelow}
use Rattle.bech32_descriptor.specs.Pairs.{IsMendByTwo, IsTwoBefore}
use Rattle.bech32_descriptor.specs.Walks.{IsReady, change_in, rows_for}
use Rattle.bech32_descriptor.proofs.Listings.{HasFoundAll, found_all, found_chain, found_start}
use Rattle.bech32_descriptor.proofs.TwoChanges.{second_place_first, second_within}
use Rattle.bech32_descriptor.proofs.pairs.push_two.Goals as goal

pub loop-place-init : goal.loop-place-init
loop-place-init g c = record {
  same = refl;
  size = refl;
  marks = λ i low. absurd (omega (arith, low));
  kept = found_start IsTwoBefore (IsMendByTwo c.args.text.now) (λ e. e.second.place) 0 c.args.found.now.items (λ e h less. absurd (omega (arith, less)));
}

pub push_two_at-requires : goal.push_two_at-requires
push_two_at-requires g c =
    let at = c.loop-place in
    let same = sym at.invariant.same in
    record {
      ready = subst (λ (t : List ℕ). IsReady c.args.rows.now t c.args.word) same c.requires.ready;
      within = subst (λ (t : List ℕ). at.place < length t) same c.loop-place-test.true;
      some = omega (arith, at.invariant.size, c.requires.some);
      marks = subst (λ (t : List ℕ). MarksChangesBelow at.cells c.args.rows.now (length t) at.place) same at.invariant.marks;
    }

pub mark_place-requires : goal.mark_place-requires
mark_place-requires g c =
    let at = c.loop-place in
    let text = c.args.text.now in
    let size : length c.push_two_at.new.text ≡ length text = ap (λ (t : List ℕ). length t) (c.in_ok-push_two_at.ensures.0 ∙ at.invariant.same) in
    let low : at.place < length text = c.loop-place-test.true in
    record {
      some = omega (arith, at.invariant.size, c.requires.some);
      few = (omega (arith, size, c.requires.ready.few), omega (arith, size, low));
      long = omega (arith, size, c.requires.ready.long);
      enough = subst (λ (n : ℕ). rows_for n ≤ length c.args.rows.now) (sym size) c.requires.ready.enough;
    }

pub loop-place-preserved : goal.loop-place-preserved
loop-place-preserved g c =
    let at = c.loop-place in
    let text = c.args.text.now in
    let rows = c.args.rows.now in
    let h = c.in_ok-push_two_at.ensures in
    let whole = h.0 ∙ at.invariant.same in
    let after = c.mark_place in
    let here : MarksChanges after.new.cells rows (length text) at.place =
    subst (λ (t : List ℕ). MarksChanges after.new.cells rows (length t) at.place) whole after.ensures.changes in
    record {
      same = whole;
      size = after.ensures.size ∙ at.invariant.size;
      marks = λ i low. elim (cases_lt i at.place) [
        | inl less ↦ (λ t b size. after.ensures.kept (change_in rows t i b) (at.invariant.marks i less t b size))
        | inr last ↦ (let there : at.place ≡ i = omega (arith, low, last) in subst (λ (k : ℕ). MarksChanges after.new.cells rows (length text) k) there here)
      ];
      kept = found_chain IsTwoBefore (IsMendByTwo text) (λ e. e.second.place) at.place c.args.found.now.items at.found.items c.push_two_at.new.found.items
          (second_place_first text)
          (subst (λ (t : List ℕ). HasFoundAll IsTwoBefore (IsTwoAt t at.place) at.found.items c.push_two_at.new.found.items) at.invariant.same h.1)
          at.invariant.kept;
    }

pub returns : goal.returns
returns g c =
    let at = c.loop-place in
    let text = c.args.text.now in
    let end : length text ≤ at.place = omega arith in
    found_all IsTwoBefore (IsMendByTwo text) (λ e. e.second.place) at.place c.args.found.now.items at.found.items
    (λ e h. let p = second_within text e h in omega (arith, p.0, end)) at.invariant.kept
