use Rattle.std.proofs.Common.{ap, ◌∙◌, refl}
use Rattle.bech32_gf.specs.Alphabet.{char_of}
use Rattle.bech32_gf.specs.Fe32 as fe32
use Rattle.bech32_gf.specs.declared.gf32.Fe32.{Fe32}
use Rattle.bech32_correction.proofs.Values.{at_alphabet, ends-set}
use Rattle.bech32_correction.proofs.mending.mend_at.Goals as goal

pub from_char_unchecked-element-requires : goal.from_char_unchecked-element-requires
from_char_unchecked-element-requires c =
    at_alphabet c.args.text.now c.requires.0 c.requires.1.0 c.requires.1.1 c.args.location _ c.args.value c.requires.1.2 refl

pub returns : goal.returns
returns c = λ front elements ends inside.
    ends-set c.args.text.now front elements ends c.args.location _ c.args.value inside refl c.to_char.result
    (c.to_char.ensures.value ∙ ap (λ (x : Fe32). char_of x.value) (c.add.ensures ∙ ap (λ (x : Fe32). fe32.add x c.args.value) c.from_char_unchecked-element.ensures))
