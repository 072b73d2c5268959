use Rattle.bech32_checksum.proofs.TwoTables.{two_after}
use Rattle.bech32_checksum.proofs.checksums.words.after_two_by_table.Goals as goal

pub returns : goal.returns
returns c =
    let both = two_after c.args.residue c.args.two c.requires.residue c.requires.two in
    record { clear = both.0; after = both.1 }
