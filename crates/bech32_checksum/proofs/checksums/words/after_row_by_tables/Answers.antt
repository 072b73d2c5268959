use Rattle.bech32_checksum.proofs.TwoTables.{row_after}
use Rattle.bech32_checksum.proofs.checksums.words.after_row_by_tables.Goals as goal

pub returns : goal.returns
returns c =
    let both = row_after c.args.residue c.args.row c.requires.residue c.requires.row in
    rw c.sum_of_pairs.ensures (record { clear = both.0; after = both.1 })
