use Rattle.bech32_checksum.proofs.Syndromes.{syndrome_is}
use Rattle.bech32_checksum.proofs.checksums.beside.syndromes_of.Goals as goal

pub returns : goal.returns
returns c j below =
    syndrome_is c.args.residue.now j c.syndromes_at-5.result c.syndromes_at-6.result c.syndromes_at-3.result
    c.syndromes_at-4.result c.syndromes_at.result c.syndromes_at-2.result
    c.index-residue-0.result c.index-residue-1.result c.index-residue-2.result c.index-residue-3.result c.index-residue-4.result c.index-residue-5.result
    c.requires
    c.index-residue-0.is c.index-residue-1.is c.index-residue-2.is c.index-residue-3.is c.index-residue-4.is c.index-residue-5.is
    (c.syndromes_at-5.ensures j below) (c.syndromes_at-6.ensures j below) (c.syndromes_at-3.ensures j below)
    (c.syndromes_at-4.ensures j below) (c.syndromes_at.ensures j below) (c.syndromes_at-2.ensures j below)
