use Rattle.bech32_descriptor.proofs.TimesPowers.{word_after}
use Rattle.bech32_descriptor.proofs.steps.after_word_by_tables.Goals as goal

pub returns : goal.returns
returns c =
    let both = word_after c.args.residue c.args.word c.requires.residue c.requires.word in
    record { clear = both.0; after = both.1 }
