use Rattle.std.proofs.Common.{◌≡◌, ◌<◌, ℕ, List, [], length, refl, sym, subst, ◌∙◌, arith}
use Rattle.bech32_descriptor.specs.Edits.{AreAllMends, IsMendBefore}
use Rattle.bech32_descriptor.specs.PairWalks.{IsMendBelow}
use Rattle.bech32_descriptor.specs.Walks.{IsMendAt, IsMendOfKind, IsReady}
use Rattle.bech32_descriptor.specs.declared.edits.Edit.{Edit}
use Rattle.bech32_descriptor.proofs.Listings.{HasFound, HasFoundAll, found_chain, found_start}
use Rattle.bech32_descriptor.proofs.Told.{all_changed_at, place_first}
use Rattle.bech32_descriptor.proofs.walks.changed_below.Goals as goal

pub loop-place-init : goal.loop-place-init
loop-place-init g c = record {
  same = refl;
  kept = subst (λ (l : List Edit). HasFound IsMendBefore (IsMendOfKind 0 c.args.text.now) (λ e. e.place) 0 [] l) (sym c.new-found.ensures.items)
      (found_start IsMendBefore (IsMendOfKind 0 c.args.text.now) (λ e. e.place) 0 [] (λ e h less. absurd (omega (arith, less))));
}

pub bounds-text-place : goal.bounds-text-place
bounds-text-place g c =
    let inside : c.loop-place.place < c.args.end = omega arith in
    subst (λ (t : List ℕ). c.loop-place.place < length t) (sym c.loop-place.invariant.same) (omega (arith, inside, c.requires.within))

pub push_put_at-requires : goal.push_put_at-requires
push_put_at-requires g c =
    let same = sym c.loop-place.invariant.same in
    record {
      ready = subst (λ (t : List ℕ). IsReady c.args.rows.now t c.args.word) same c.requires.ready;
      within = let inside : c.loop-place.place < c.args.end = omega arith in
          subst (λ (t : List ℕ). c.loop-place.place < length t) same (omega (arith, inside, c.requires.within));
    }

pub loop-place-preserved : goal.loop-place-preserved
loop-place-preserved g c =
    let at = c.loop-place in
    let text = c.args.text.now in
    let h = c.in_ok-push_put_at.ensures in
    let inside : at.place < c.args.end = omega arith in
    let within : at.place < length at.text = subst (λ (t : List ℕ). at.place < length t) (sym at.invariant.same) (omega (arith, inside, c.requires.within)) in
    let all : AreAllMends (IsMendAt 0 at.text at.place) h.1.0 = all_changed_at at.text at.place h.1.0 within h.1.2 in
    record {
      same = h.0 ∙ at.invariant.same;
      kept = found_chain IsMendBefore (IsMendOfKind 0 text) (λ e. e.place) at.place [] at.found.items c.push_put_at.new.found.items
          (place_first 0 text)
          (subst (λ (t : List ℕ). HasFoundAll IsMendBefore (IsMendAt 0 t at.place) at.found.items c.push_put_at.new.found.items) at.invariant.same (h.1.0, h.1.1, all))
          at.invariant.kept;
    }

pub returns : goal.returns
returns g c =
    let at = c.loop-place in
    let text = c.args.text.now in
    let end : at.place ≡ c.args.end = omega arith in
    let (xs, is, all) = subst (λ (n : ℕ). HasFound IsMendBefore (IsMendOfKind 0 text) (λ e. e.place) n [] at.found.items) end at.invariant.kept in
    (at.invariant.same, subst (λ (l : List Edit). AreAllMends (IsMendBelow text c.args.end) l) (sym is) all)
