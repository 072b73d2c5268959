use Rattle.std.proofs.lemmas.Iterator.{items_from_collect, YieldsList-from_chars}
use Rattle.bech32_typed.proofs.cleaning.chars_of.Goals as goal

pub returns : goal.returns
returns g c =
    items_from_collect c.collect.result c.collect.ensures.ran
    (YieldsList-from_chars c.args.text.now c.utf8.text c.chars.ensures.rest)
