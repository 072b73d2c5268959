use Rattle.std.specs.Prelude.{option_to_list}
use Rattle.std.proofs.Common.{◌≡◌, ◌<◌, ◌≤◌, ◌-◌, ℕ, List, length, ap, ◌∙◌, arith}
use Rattle.std.proofs.lemmas.List.{length-drop}
use Rattle.bech32_descriptor.specs.Edits.{IsMendBefore}
use Rattle.bech32_descriptor.specs.Walks.{IsMendOfKind}
use Rattle.bech32_descriptor.proofs.Listings.{found_all, found_more, found_none, found_start}
use Rattle.bech32_descriptor.proofs.Told.{left_out_within, none_left_out, place_first}
use Rattle.bech32_descriptor.proofs.walks.push_left_out.Goals as goal

pub returns-then-text-lt10 : goal.returns-then-text-lt10
returns-then-text-lt10 g c =
    let text = c.args.text.now in
    let short : length text < 10 = omega arith in
    found_none IsMendBefore (IsMendOfKind 2 text) c.args.found.now.items (λ e h. none_left_out text e short h)

pub residue_of-word-requires : goal.residue_of-word-requires
residue_of-word-requires g c = omega (arith, ap (λ (u : List ℕ). length u) c.requires.rest, length-drop 1 c.args.text.now)

pub loop-place-init : goal.loop-place-init
loop-place-init g c =
    let size : length c.args.rest.now ≡ length c.args.text.now - 1 = ap (λ (u : List ℕ). length u) c.requires.rest ∙ length-drop 1 c.args.text.now in
    record {
      ready = record {
        long = omega (arith, size);
        few = omega (arith, size, c.requires.rows.few);
        enough = omega (arith, size, c.requires.rows.enough);
        rows_are = c.requires.rows.rows_are;
        word_is = c.residue_of-word.ensures;
      };
      rest = λ low. c.requires.rest;
      kept = found_start IsMendBefore (IsMendOfKind 2 c.args.text.now) (λ e. e.place) 0 c.args.found.now.items (λ e h less. absurd (omega (arith, less)));
    }

pub left_out_at-edit-requires : goal.left_out_at-edit-requires
left_out_at-edit-requires g c = record {
  within = c.loop-place-test.true;
  rest = c.loop-place.invariant.rest c.loop-place-test.true;
  word = c.loop-place.invariant.ready.word_is;
}

pub next_left_out-word-requires : goal.next_left_out-word-requires
next_left_out-word-requires g c = record {
  ready = c.loop-place.invariant.ready;
  within = c.loop-place-test.true;
  rest = c.loop-place.invariant.rest c.loop-place-test.true;
}

pub loop-place-preserved : goal.loop-place-preserved
loop-place-preserved g c =
    let at = c.loop-place in
    let text = c.args.text.now in
    record {
      ready = c.next_left_out-word.ensures.ready;
      rest = c.next_left_out-word.ensures.rest;
      kept = found_more IsMendBefore (IsMendOfKind 2 text) (λ e. e.place) at.place c.args.found.now.items at.found.items c.push_some.new.found.items
          (option_to_list c.left_out_at-edit.result) (place_first 2 text) c.in_ok-push_some.ensures c.left_out_at-edit.ensures at.invariant.kept;
    }

pub returns : goal.returns
returns g c =
    let at = c.loop-place in
    let text = c.args.text.now in
    let end : length text ≤ at.place = omega arith in
    found_all IsMendBefore (IsMendOfKind 2 text) (λ e. e.place) at.place c.args.found.now.items at.found.items
    (λ e h. let p = left_out_within text e h in omega (arith, p, end)) at.invariant.kept
