use Rattle.bech32_checksum.specs.TextPolynomial.{IsChecksumOfElements, EndsInChecksum}
use Rattle.bech32_bits.proofs.AdaptorWalks.{walk_holds, runs_hold}
use Rattle.bech32_checksum.proofs.Digits.{length-tabulate}
use Rattle.bech32_encode.proofs.ChecksumEnds.{target-length, ends_in_checksum}
use Rattle.bech32_encode.proofs.checksummed.Checksummed.new.Goals as goal

pub returns-clause-gives : goal.returns-clause-gives
returns-clause-gives g c =
    let laws = g.met.Ck.Checksum in
    ends_in_checksum g.Ck.Checksum.code (target-length g.Ck.Checksum.code _ _ laws.code_law (length-tabulate _ _) laws.degree_law) g.Ck.MidstateRepr.PackedFe32.number c.new.result c.new.ensures

pub returns-clause-walk : goal.returns-clause-walk
returns-clause-walk g c =
    walk_holds g.I.Iterator.next_gives _ _ (EndsInChecksum (IsChecksumOfElements g.Ck.Checksum.code)) _ _ c.fuse-elements.ensures.source c.fuse-elements.ensures.done
    (returns-clause-gives g c)

pub returns-clause-runs : goal.returns-clause-runs
returns-clause-runs g c =
    runs_hold g.I.Iterator.next_gives _ _ (EndsInChecksum (IsChecksumOfElements g.Ck.Checksum.code)) _ _ c.fuse-elements.ensures.source c.fuse-elements.ensures.done
    (returns-clause-gives g c)
