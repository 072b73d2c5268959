use Rattle.std.proofs.Common.{◌≡◌, ◌+◌, ◌++◌, ℕ, List, length, arith, subst, sym, ap, ◌∙◌}
use Rattle.bech32_descriptor.specs.Edits.{AreAllMends, IsMendWithin}
use Rattle.bech32_descriptor.specs.Walks.{IsMendOfKind, IsWithinOfKind, SufficeFor}
use Rattle.bech32_descriptor.specs.declared.edits.Edit.{Edit}
use Rattle.bech32_descriptor.proofs.Kept.{all_kinds}
use Rattle.bech32_descriptor.proofs.Told.{within_later}
use Rattle.bech32_descriptor.proofs.mends.edits_of.Goals as goal

fewer : (rows : List ℕ) (n : ℕ) → SufficeFor rows (n + 1) → SufficeFor rows n
fewer rows n h = record {
  few = omega (arith, h.few);
  enough = omega (arith, h.enough);
  rows_are = h.rows_are;
}

pub edits_on_copy-requires : goal.edits_on_copy-requires
edits_on_copy-requires g c =
    let same = sym (c.deref_mut.ensures.value ∙ c.in_ok-copy.ensures.items) in
    subst (λ (t : List ℕ). SufficeFor c.args.rows.now (length t)) same (fewer c.args.rows.now (length c.args.text.now) c.requires.rows)

pub returns : goal.returns
returns g c =
    let text = c.args.text.now in
    let most = c.args.most in
    let A = IsMendWithin most text in
    let whole : c.deref_mut.result.now ≡ text = c.deref_mut.ensures.value ∙ c.in_ok-copy.ensures.items in
    let h = c.in_ok-found.ensures in
    let k = c.in_ok-push_other_length.ensures in
    subst (λ (u : List Edit). AreAllMends A u)
    (sym (k.2 ∙ ap (λ (u : List Edit). (u ++ k.0) ++ k.1) h.2))
    (all_kinds A h.0 h.1 k.0 k.1 (subst (λ (t : List ℕ). AreAllMends (IsWithinOfKind 0 most t) h.0) whole h.3)
    (within_later 1 most text h.1 (omega arith) (subst (λ (t : List ℕ). AreAllMends (IsMendOfKind 1 t) h.1) whole h.4)) (within_later 2 most text k.0 (omega arith) k.3)
    (within_later 3 most text k.1 (omega arith) k.4))
