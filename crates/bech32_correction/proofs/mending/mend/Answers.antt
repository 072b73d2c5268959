use Rattle.std.specs.Prelude.{map}
use Rattle.std.proofs.Common.{ℕ, ◌<◌, ◌++◌, List, [], ◌∷◌, length, take, sym, ap, subst, ◌∙◌}
use Rattle.bech32_gf.specs.Fe32.{ops}
use Rattle.bech32_gf.specs.declared.gf32.Fe32.{Fe32}
use Rattle.bech32_gf.specs.laws.Fe32Laws.{is_field}
use Rattle.bech32_checksum.specs.Encoded.{char_of_element}
use Rattle.bech32_correction.specs.MendedElements.{mended}
use Rattle.bech32_correction.proofs.Sums.{length-mended}
use Rattle.bech32_correction.proofs.Values.{all_at, mended-more, mended-none}
use Rattle.bech32_correction.proofs.mending.mend.Goals as goal

pub loop-item-init : goal.loop-item-init
loop-item-init c = λ front elements ends inside. ends ∙ ap (λ (l : List Fe32). front ++ map char_of_element l) (sym (mended-none is_field elements))

pub loop-item-preserved : goal.loop-item-preserved
loop-item-preserved c = λ front elements ends inside.
    let item : ℕ × Fe32 = c.item-item.result in
    let before : List Fe32 = mended ops (take c.loop-item.item-index c.args.listing.now) elements in
    let here : c.item-item.result.0 < length elements = subst (λ (q : ℕ × Fe32). q.0 < length elements) (sym c.item-item.is)
    (all_at (λ (q : ℕ × Fe32). q.0 < length elements) c.args.listing.now c.loop-item.item-index c.item-item.result c.loop-item-test.true inside) in
    let within : c.item-item.result.0 < length (mended ops (take c.loop-item.item-index c.args.listing.now) elements) =
    subst (λ (m : ℕ). c.item-item.result.0 < m) (sym (length-mended ops (take c.loop-item.item-index c.args.listing.now) elements)) here in
    c.mend_at.ensures front before (c.loop-item.invariant front elements ends inside) within
    ∙ ap (λ (l : List Fe32). front ++ map char_of_element l)
    (ap (λ (q : ℕ × Fe32). mended ops (q ∷ []) before) c.item-item.is ∙ sym (mended-more c.args.listing.now c.loop-item.item-index c.item-item.result elements c.loop-item-test.true))
