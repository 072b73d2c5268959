use Rattle.std.proofs.Common.{◌++◌, List, subst, sym, ap, ◌∙◌}
use Rattle.bech32_gf.specs.Fe32.{elements_of}
use Rattle.bech32_hrp.specs.HrpBytes.{hrp_bytes}
use Rattle.bech32_near.specs.edits.Edits.{AreAllOf}
use Rattle.bech32_near.specs.edits.Walks.{IsAcceptedEdit}
use Rattle.bech32_near.specs.declared.edits.edit.Edit.{Edit}
use Rattle.bech32_near.proofs.Kept.{all_kinds}
use Rattle.bech32_near.proofs.edits.texts.edits_of.Goals as goal

pub returns : goal.returns
returns g c =
    let A = IsAcceptedEdit g.Ck.Checksum.code (hrp_bytes c.args.text.now.hrp) (elements_of c.args.text.now.characters.now) in
    let (xs, e, a) = c.in_ok-push_swapped.ensures in
    let (ys, f, b) = c.in_ok-push_left_out.ensures in
    let (zs, h, d) = c.in_ok-push_put_in.ensures in
    subst (λ (u : List Edit). AreAllOf A u)
    (sym (h ∙ ap (λ (u : List Edit). u ++ zs) (f ∙ ap (λ (u : List Edit). u ++ ys) (e ∙ ap (λ (u : List Edit). u ++ xs) c.new-found.ensures.items))))
    (all_kinds A xs ys zs a b d)
