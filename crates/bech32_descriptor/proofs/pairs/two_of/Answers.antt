use Rattle.std.specs.Prelude.{IfOk}
use Rattle.std.proofs.Common.{◌≡◌, ◌≤◌, ℕ, List, length, sym, subst, ◌∙◌, arith}
use Rattle.bech32_descriptor.specs.Pairs.{AreAllByTwo, IsMendByTwo}
use Rattle.bech32_descriptor.specs.Walks.{SufficeFor}
use Rattle.bech32_descriptor.proofs.pairs.two_of.Goals as goal

pub two_on_copy-requires : goal.two_on_copy-requires
two_on_copy-requires g c =
    let same = sym (c.deref_mut.ensures.value ∙ c.in_ok-copy.ensures.items) in
    let rows : SufficeFor c.in_ok-rows.rows.items (length c.args.text.now) = record {
      few = omega (arith, c.requires.few);
      enough = omega (arith, c.in_ok-rows.ensures.1);
      rows_are = c.in_ok-rows.ensures.0;
    } in
    record {
      long = subst (λ (t : List ℕ). 9 ≤ length t) same c.requires.long;
      rows = subst (λ (r : List ℕ). SufficeFor r (length c.deref_mut.result.now)) (sym c.deref.ensures.value)
          (subst (λ (t : List ℕ). SufficeFor c.in_ok-rows.rows.items (length t)) same rows);
    }

pub returns : goal.returns
returns g c =
    let whole : c.deref_mut.result.now ≡ c.args.text.now = c.deref_mut.ensures.value ∙ c.in_ok-copy.ensures.items in
    subst (λ (t : List ℕ). IfOk c.two_on_copy.result (λ edits. AreAllByTwo (IsMendByTwo t) edits.items)) whole c.two_on_copy.ensures
