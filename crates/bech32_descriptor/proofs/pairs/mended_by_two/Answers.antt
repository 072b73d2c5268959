use Rattle.bech32_descriptor.proofs.Listed.{are_two_mends}
use Rattle.bech32_descriptor.proofs.pairs.mended_by_two.Goals as goal

pub texts_by_two-requires : goal.texts_by_two-requires
texts_by_two-requires g c = record { few = c.requires.few; mends = c.in_ok-found.ensures.each }

pub returns : goal.returns
returns g c =
    are_two_mends (λ m. m.edits) (λ m. m.text.items) c.args.text.now c.in_ok-found.found.items _ c.requires.few c.in_ok-found.ensures
    c.in_ok-texts_by_two.ensures.same c.in_ok-texts_by_two.ensures.each
