use Rattle.bech32_checksum.proofs.TwoTables.{word_after}
use Rattle.bech32_checksum.proofs.checksums.words.after_word_by_tables.Goals as goal

pub returns : goal.returns
returns c =
    let both = word_after c.args.residue c.args.word c.requires.residue c.requires.word in
    rw c.sum_of_pairs.ensures (record { clear = both.0; after = both.1 })
