use Rattle.std.proofs.Common.{◌<◌, ◌≤◌, ℕ, List, [], length, sym, subst, arith}
use Rattle.bech32_descriptor.specs.Edits.{AreAllMends, IsMendBefore}
use Rattle.bech32_descriptor.specs.Walks.{IsMendOfKind, IsReady, IsWithinOfKind}
use Rattle.bech32_descriptor.proofs.Listings.{nothing}
use Rattle.bech32_descriptor.proofs.Told.{changed_before, none_changed, none_swapped}
use Rattle.bech32_descriptor.proofs.mends.edits_on_copy.Goals as goal

pub returns-then-text-lt9 : goal.returns-then-text-lt9
returns-then-text-lt9 g c =
    let text = c.args.text.now in
    let short : length text < 9 = omega arith in (
      [],
      [],
      c.new.ensures.items,
      nothing IsMendBefore (IsWithinOfKind 0 c.args.most text) (λ e h. none_changed text e short (h.0, h.1.1)),
      nothing IsMendBefore (IsMendOfKind 1 text) (λ e h. none_swapped text e short h),
    )

pub changed_below-requires : goal.changed_below-requires
changed_below-requires g c = record {
  ready = record {
    long = omega arith;
    few = c.requires.few;
    enough = c.requires.enough;
    rows_are = c.requires.rows_are;
    word_is = c.residue_of-word.ensures;
  };
  within = c.end_of_changes-end.ensures.within;
}

pub push_swapped-requires : goal.push_swapped-requires
push_swapped-requires g c =
    let long : 9 ≤ length c.args.text.now = omega arith in
    subst (λ (t : List ℕ). IsReady c.args.rows.now t c.residue_of-word.result) (sym c.in_ok-found.ensures.0) (record {
      long = long;
      few = c.requires.few;
      enough = c.requires.enough;
      rows_are = c.requires.rows_are;
      word_is = c.residue_of-word.ensures;
    })

pub returns : goal.returns
returns g c =
    let text = c.args.text.now in
    let xs = c.in_ok-found.found.items in
    let same = c.in_ok-found.ensures.0 in
    let end = c.end_of_changes-end in
    let h = c.in_ok-push_swapped.ensures.1 in (
      xs,
      h.0,
      h.1,
      changed_before c.args.most end.result text xs end.ensures.none end.ensures.all c.in_ok-found.ensures.1,
      subst (λ (t : List ℕ). AreAllMends (IsMendOfKind 1 t) h.0) same h.2,
    )
