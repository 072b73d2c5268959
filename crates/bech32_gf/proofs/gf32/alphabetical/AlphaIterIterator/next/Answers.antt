use Rattle.std.proofs.Common.{◌<◌, ◌∷◌, ◌∙◌, ap, sym, suc, drop, get_or, add-one, drop-cons, refl}
use Rattle.std.proofs.Math.ListN.{get_or-map}
use Rattle.bech32_gf.specs.Alphabet.{is_of_alphabet}
use Rattle.bech32_gf.specs.Alphabetical.{alphabetical}
use Rattle.bech32_gf.specs.laws.Below.{each_below-at}
use Rattle.bech32_gf.specs.Fe32.{element_of}
use Rattle.bech32_gf.specs.declared.gf32.alphabetical.TheConstants.{ALPHABETICAL}
use Rattle.bech32_gf.proofs.gf32.alphabetical.AlphaIterIterator.next.Goals as goal

pub from_char_unchecked-item-requires : goal.from_char_unchecked-item-requires
unfolding is_of_alphabet
from_char_unchecked-item-requires c =
    each_below-at 32 (λ i. is_of_alphabet (get_or ALPHABETICAL i 0)) refl c.args.self.now.given c.if-self-ge32.false

pub returns-clause-steps : goal.returns-clause-steps
returns-clause-steps c =
    let i = c.args.self.now.given in
    let within : i < 32 = c.if-self-ge32.false in
    drop-cons alphabetical i (element_of 0) within
    ∙ ap (λ x. x ∷ drop (suc i) alphabetical) (get_or-map element_of ALPHABETICAL i 0 ∙ sym c.from_char_unchecked-item.ensures)
    ∙ ap (λ n. c.from_char_unchecked-item.result ∷ drop n alphabetical) (sym (add-one i))
