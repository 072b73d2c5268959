use Rattle.std.proofs.Common.{◌<◌, length, set, length-set, sym, ap, subst, ◌∙◌}
use borrow.Author.Rules.{scaled_Fits}
use Rattle.bech32_poly.proofs.Loops.{written_over}
use Rattle.bech32_poly.proofs.fieldvec.FieldVec.set.Goals as goal

pub bounds-as_mut_slice-index : goal.bounds-as_mut_slice-index
bounds-as_mut_slice-index g c = subst (λ u. c.args.index < length u) (sym (c.as_mut_slice.ensures.value ∙ c.self.view_is)) c.requires

pub offset_bounds-as_mut_slice-index : goal.offset_bounds-as_mut_slice-index
offset_bounds-as_mut_slice-index g c =
    let within : c.args.index < length c.as_mut_slice.result.now = subst (λ u. c.args.index < length u) (sym (c.as_mut_slice.ensures.value ∙ c.self.view_is)) c.requires in
    scaled_Fits c.args.index (length c.as_mut_slice.result.now) _ within c.as_mut_slice.type_inv.1

pub returns : goal.returns
returns g c =
    written_over c.self.inside.inner.items (set c.as_mut_slice.result.now c.args.index c.args.x)
    (length-set c.as_mut_slice.result.now c.args.index c.args.x ∙ ap (λ u. length u) c.as_mut_slice.ensures.value)
    ∙ ap (λ u. set u c.args.index c.args.x) (c.as_mut_slice.ensures.value ∙ c.self.view_is)
