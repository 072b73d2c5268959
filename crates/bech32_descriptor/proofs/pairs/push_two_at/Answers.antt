use Rattle.std.proofs.Common.{◌<◌, ◌≤◌, ℕ, List, length, refl, sym, subst, ◌∙◌, arith}
use Rattle.bech32_descriptor.specs.Edits.{byte_put}
use Rattle.bech32_descriptor.specs.PairWalks.{IsTwoAt, IsTwoBy, MarksChangesBelow}
use Rattle.bech32_descriptor.specs.Pairs.{IsTwoBefore}
use Rattle.bech32_descriptor.specs.Walks.{IsReady}
use Rattle.bech32_descriptor.proofs.Listings.{HasFoundAll, found_all, found_chain, found_none, found_start}
use Rattle.bech32_descriptor.proofs.TwoChanges.{second_byte_first, second_within}
use Rattle.bech32_descriptor.proofs.pairs.push_two_at.Goals as goal

pub loop-byte-init : goal.loop-byte-init
loop-byte-init g c = record {
  same = refl;
  kept = found_start IsTwoBefore (IsTwoAt c.args.text.now c.args.place) (λ e. byte_put e.second.change) 32 c.args.found.now.items
      (λ e h less. let p = second_within c.args.text.now e h.0 in absurd (omega (arith, p.1.0, less)));
}

pub may_be_second-requires : goal.may_be_second-requires
may_be_second-requires g c =
    let same = sym c.loop-byte.invariant.same in
    record {
      ready = subst (λ (t : List ℕ). IsReady c.args.rows.now t c.args.word) same c.requires.ready;
      within = subst (λ (t : List ℕ). c.args.place < length t) same c.requires.within;
      some = c.requires.some;
      marks = subst (λ (t : List ℕ). MarksChangesBelow c.args.cells.now c.args.rows.now (length t) c.args.place) same c.requires.marks;
    }

pub loop-byte-preserved-then-not-may_be_second : goal.loop-byte-preserved-then-not-may_be_second
loop-byte-preserved-then-not-may_be_second g c =
    let at = c.loop-byte in
    let text = c.args.text.now in
    let here = c.args.place in
    let none = c.if-not-may_be_second.ensures.none refl in
    record {
      same = at.invariant.same;
      kept = found_chain IsTwoBefore (IsTwoAt text here) (λ e. byte_put e.second.change) at.byte c.args.found.now.items at.found.items at.found.items
          (second_byte_first text here)
          (subst (λ (t : List ℕ). HasFoundAll IsTwoBefore (IsTwoBy t here at.byte) at.found.items at.found.items) at.invariant.same
          (found_none IsTwoBefore (IsTwoBy at.text here at.byte) at.found.items none))
          at.invariant.kept;
    }

pub push_two_with-requires : goal.push_two_with-requires
push_two_with-requires g c =
    let same = sym c.loop-byte.invariant.same in
    record {
      ready = subst (λ (t : List ℕ). IsReady c.args.rows.now t c.args.word) same c.requires.ready;
      told = (subst (λ (t : List ℕ). c.args.place < length t) same c.requires.within, (omega arith, omega arith), c.if-not-may_be_second.ensures.other refl);
    }

pub loop-byte-preserved : goal.loop-byte-preserved
loop-byte-preserved g c =
    let at = c.loop-byte in
    let text = c.args.text.now in
    let here = c.args.place in
    let h = c.in_ok-push_two_with.ensures in
    record {
      same = h.0 ∙ at.invariant.same;
      kept = found_chain IsTwoBefore (IsTwoAt text here) (λ e. byte_put e.second.change) at.byte c.args.found.now.items at.found.items c.push_two_with.new.found.items
          (second_byte_first text here)
          (subst (λ (t : List ℕ). HasFoundAll IsTwoBefore (IsTwoBy t here at.byte) at.found.items c.push_two_with.new.found.items) at.invariant.same h.1)
          at.invariant.kept;
    }

pub returns : goal.returns
returns g c =
    let at = c.loop-byte in
    let text = c.args.text.now in
    let end : 127 ≤ at.byte = omega arith in (
      at.invariant.same,
      found_all IsTwoBefore (IsTwoAt text c.args.place) (λ e. byte_put e.second.change) at.byte c.args.found.now.items at.found.items
          (λ e h. let p = second_within text e h.0 in omega (arith, p.1.1, end)) at.invariant.kept,
    )
