use Rattle.std.specs.Prelude.{option_to_list}
use Rattle.std.proofs.Common.{◌<◌, ◌≤◌, ℕ, List, length, refl, sym, subst, ◌∙◌, arith}
use Rattle.bech32_descriptor.specs.Edits.{AreAllMends, IsMendBefore, byte_put}
use Rattle.bech32_descriptor.specs.PairWalks.{AreBases}
use Rattle.bech32_descriptor.specs.Walks.{IsPutAt, IsPutBy, IsReady}
use Rattle.bech32_descriptor.proofs.Listings.{found_all, found_more, found_start}
use Rattle.bech32_descriptor.proofs.Told.{put_first}
use Rattle.bech32_descriptor.proofs.walks.push_put_at.Goals as goal

pub bases_of-bases-requires : goal.bases_of-bases-requires
bases_of-bases-requires g c = record {
  long = c.requires.ready.long;
  few = c.requires.ready.few;
  within = c.requires.within;
  enough = c.requires.ready.enough;
}

pub loop-byte-init : goal.loop-byte-init
loop-byte-init g c =
    let put = c.args.put in
    record {
      same = refl;
      listed = found_start IsMendBefore (IsPutAt put.put_in put.kept put.place c.args.text.now) (λ e. byte_put e.change) 32 c.args.found.now.items
          (λ e h less. absurd (omega (arith, h.printed.0, less)));
    }

pub put_at-edit-requires : goal.put_at-edit-requires
put_at-edit-requires g c =
    let same = sym c.loop-byte.invariant.same in
    let place = c.args.put.place in
    record {
      ready = subst (λ (t : List ℕ). IsReady c.args.rows.now t c.args.put.word) same c.requires.ready;
      within = subst (λ (t : List ℕ). place < length t) same c.requires.within;
      printed = (omega arith, omega arith);
      bases = subst (λ (t : List ℕ). AreBases c.args.rows.now t place c.bases_of-bases.result) same c.bases_of-bases.ensures;
    }

pub loop-byte-preserved : goal.loop-byte-preserved
loop-byte-preserved g c =
    let at = c.loop-byte in
    let text = c.args.text.now in
    let put = c.args.put in
    record {
      same = c.put_at-edit.ensures.text ∙ at.invariant.same;
      listed = found_more IsMendBefore (IsPutAt put.put_in put.kept put.place text) (λ e. byte_put e.change) at.byte c.args.found.now.items at.found.items c.push_some.new.found.items
          (option_to_list c.put_at-edit.result) (put_first put.put_in put.kept put.place text) c.in_ok-push_some.ensures
          (subst (λ (t : List ℕ). AreAllMends (IsPutBy put.put_in put.kept put.place t at.byte) (option_to_list c.put_at-edit.result)) at.invariant.same c.put_at-edit.ensures.all)
          at.invariant.listed;
    }

pub returns : goal.returns
returns g c =
    let at = c.loop-byte in
    let put = c.args.put in
    let end : 127 ≤ at.byte = omega arith in (
      at.invariant.same,
      found_all IsMendBefore (IsPutAt put.put_in put.kept put.place c.args.text.now) (λ e. byte_put e.change) at.byte c.args.found.now.items at.found.items
          (λ e h. omega (arith, h.printed.1, end)) at.invariant.listed,
    )
