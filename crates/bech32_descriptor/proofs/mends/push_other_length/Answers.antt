use Rattle.std.proofs.Common.{◌≡◌, ◌+◌, ◌++◌, ◌∷◌, ℕ, List, length, drop, sym, ap, subst, ◌∙◌, arith}
use Rattle.std.proofs.lemmas.Result.{IfOk-weaker}
use Rattle.bech32_descriptor.specs.Edits.{AddsAllMends, AddsTwoKinds, AreAllMends}
use Rattle.bech32_descriptor.specs.Walks.{IsMendOfKind, SufficeFor}
use Rattle.bech32_descriptor.specs.declared.edits.Edit.{Edit}
use Rattle.bech32_descriptor.proofs.mends.push_other_length.Goals as goal

pub push_left_out-requires : goal.push_left_out-requires
push_left_out-requires g c = record { rows = c.requires.rows; rest = c.deref_mut.ensures.value ∙ c.in_ok-rest.ensures }

pub push_put_in-requires : goal.push_put_in-requires
push_put_in-requires g c =
    let text = c.args.text.now in
    let whole : c.deref_mut-2.result.now ≡ 48 ∷ text = c.deref_mut-2.ensures.value ∙ c.in_ok-new.ensures in
    let size : length c.deref_mut-2.result.now ≡ length text + 1 = omega (arith, ap (λ (u : List ℕ). length u) whole) in
    record {
      long = omega (arith, size, c.requires.long);
      rows = subst (λ (n : ℕ). SufficeFor c.args.rows.now n) (sym size) c.requires.rows;
    }

pub returns : goal.returns
returns g c =
    let text = c.args.text.now in
    let found = c.args.found.now.items in
    let whole : c.deref_mut-2.result.now ≡ 48 ∷ text = c.deref_mut-2.ensures.value ∙ c.in_ok-new.ensures in
    let first = c.in_ok-push_left_out.ensures in
    let P = λ (u : Unit {0}). AddsAllMends (IsMendOfKind 3 (drop 1 c.deref_mut-2.result.now)) c.push_left_out.new.found.items c.push_put_in.new.found.items in
    let Q = λ (u : Unit {0}). AddsTwoKinds (IsMendOfKind 2 text) (IsMendOfKind 3 text) found c.push_put_in.new.found.items in
    IfOk-weaker c.push_put_in.result P Q
    (λ u h. (
      first.0,
      h.0,
      h.1 ∙ ap (λ (v : List Edit). v ++ h.0) first.1,
      first.2,
      subst (λ (t : List ℕ). AreAllMends (IsMendOfKind 3 (drop 1 t)) h.0) whole h.2,
    ))
    c.push_put_in.ensures
