use Rattle.std.proofs.Common.{◌-◌, ◌<◌, ◌∙◌, length, get_or, sym, ap, arith}
use Rattle.std.proofs.lemmas.List.{length-map}
use Rattle.bech32_gf.specs.Fe32 as fe32
use Rattle.bech32_gf.specs.Fe32.{element_of, elements_of}
use Rattle.bech32_near.proofs.Characters.{element_at, of_alphabet_at}
use Rattle.bech32_near.proofs.edits.places.element_at.Goals as goal

pub from_char_unchecked-requires : goal.from_char_unchecked-requires
from_char_unchecked-requires c =
    let cs = c.args.characters.now in
    let low : length cs - 1 - c.args.location < length cs = omega (arith, c.requires.within) in
    of_alphabet_at cs (length cs - 1 - c.args.location) _ c.requires.of_alphabet low

pub returns : goal.returns
returns c =
    let cs = c.args.characters.now in
    let low : length cs - 1 - c.args.location < length cs = omega (arith, c.requires.within) in
    c.from_char_unchecked.ensures ∙ sym (element_at cs (length cs - 1 - c.args.location) _ low)
    ∙ ap (λ n. get_or (elements_of cs) (n - 1 - c.args.location) fe32.zero) (sym (length-map cs element_of))
