use Rattle.std.proofs.Common.{◌≡◌, true, ◌<◌, ◌≤◌, ◌+◌, ◌-◌, ℕ, List, [], ◌∷◌, length, get_or, drop, refl, sym, subst, ◌∙◌, arith}
use Rattle.std.proofs.lemmas.List.{length-drop}
use Rattle.bech32_descriptor.specs.Edits.{AreAllMends, IsMendBefore}
use Rattle.bech32_descriptor.specs.Walks.{IsMendOfKind, IsPutAt, IsReady}
use Rattle.bech32_descriptor.proofs.Listings.{found_all, found_chain, found_start}
use Rattle.bech32_descriptor.proofs.Told.{all_put_in_at, place_first, printed_put_in, put_behind, put_length}
use Rattle.bech32_descriptor.proofs.walks.push_put_in.Goals as goal

whole : (l : List ℕ) → 0 < length l → l ≡ get_or l 0 0 ∷ drop 1 l
whole [] h = absurd (omega (arith, h))
whole (x ∷ l) h = refl

pub loop-place-init : goal.loop-place-init
loop-place-init g c =
    let new = c.args.new.now in
    record {
      ready = record {
        long = c.requires.long;
        few = c.requires.rows.few;
        enough = c.requires.rows.enough;
        rows_are = c.requires.rows.rows_are;
        word_is = c.residue_of-word.ensures;
      };
      new = λ low. (get_or new 0 0, whole new (omega (arith, c.requires.long)));
      kept = found_start IsMendBefore (IsMendOfKind 3 (drop 1 new)) (λ e. e.place) 0 c.args.found.now.items (λ e h less. absurd (omega (arith, less)));
    }

pub push_put_at-requires : goal.push_put_at-requires
push_put_at-requires g c =
    let at = c.loop-place in
    let text = drop 1 c.args.new.now in
    let low : at.place ≤ length text = omega (arith, length-drop 1 c.args.new.now, c.loop-place-test.true) in
    let (b, is) = at.invariant.new low in
    record { ready = at.invariant.ready; within = omega (arith, put_length text at.new at.place b low is, low) }

pub next_put_in-word-requires : goal.next_put_in-word-requires
next_put_in-word-requires g c =
    let at = c.loop-place in
    let text = drop 1 c.args.new.now in
    let low : at.place ≤ length text = omega (arith, length-drop 1 c.args.new.now, c.loop-place-test.true) in
    let (b, is) = at.invariant.new low in
    let inside : at.place < length at.new = omega (arith, put_length text at.new at.place b low is, low) in
    let same = sym c.in_ok-push_put_at.ensures.0 in
    record {
      ready = subst (λ (t : List ℕ). IsReady c.args.rows.now t at.word) same at.invariant.ready;
      within = subst (λ (t : List ℕ). at.place < length t) same inside;
    }

pub loop-place-preserved : goal.loop-place-preserved
loop-place-preserved g c =
    let at = c.loop-place in
    let text = drop 1 c.args.new.now in
    let low : at.place ≤ length text = omega (arith, length-drop 1 c.args.new.now, c.loop-place-test.true) in
    let (b, is) = at.invariant.new low in
    let h = c.in_ok-push_put_at.ensures in
    let all = subst (λ (n : ℕ). AreAllMends (IsPutAt true n at.place at.new) h.1.0) c.byte_at-kept.ensures h.1.2 in
    record {
      ready = c.next_put_in-word.ensures.ready;
      new = λ more.
          let less : at.place < length text = omega (arith, more) in
          let inside : at.place + 1 < length c.push_put_at.new.text = omega (arith, put_length text c.push_put_at.new.text at.place b low (h.0 ∙ is), less) in
          (get_or text at.place 0, c.next_put_in-word.ensures.new inside ∙ put_behind text c.push_put_at.new.text at.place b low (h.0 ∙ is) less);
      kept = found_chain IsMendBefore (IsMendOfKind 3 text) (λ e. e.place) at.place c.args.found.now.items at.found.items c.push_put_at.new.found.items
          (place_first 3 text) (h.1.0, h.1.1, all_put_in_at text at.new at.place b low is h.1.0 all) at.invariant.kept;
    }

pub returns : goal.returns
returns g c =
    let at = c.loop-place in
    let new = c.args.new.now in
    let text = drop 1 new in
    let end : length new ≤ at.place = omega arith in
    let size : length text ≡ length new - 1 = length-drop 1 new in
    found_all IsMendBefore (IsMendOfKind 3 text) (λ e. e.place) at.place c.args.found.now.items at.found.items
    (λ e h. let p = printed_put_in text e h in omega (arith, p.1, end, size, c.requires.long)) at.invariant.kept
