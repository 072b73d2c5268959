use Rattle.std.proofs.Common.{◌∷◌, []}
use Rattle.bech32_gf.specs.Fe32 as fe32
use Rattle.bech32_hrp.specs.HrpBytes.{hrp_bytes}
use Rattle.bech32_checksum.specs.TextPolynomial.{IsChecksumOf, EndsInChecksum}
use Rattle.bech32_bits.proofs.AdaptorWalks.{walk_holds, runs_hold}
use Rattle.bech32_checksum.proofs.Digits.{length-tabulate}
use Rattle.bech32_encode.proofs.ChecksumEnds.{target-length, ends_in_checksum_of_hrp}
use Rattle.bech32_encode.proofs.checksummed.Checksummed.new_hrp.Goals as goal

pub returns-clause-gives : goal.returns-clause-gives
returns-clause-gives g c =
    let laws = g.met.Ck.Checksum in
    ends_in_checksum_of_hrp g.Ck.Checksum.code (target-length g.Ck.Checksum.code _ _ laws.code_law (length-tabulate _ _) laws.degree_law) g.Ck.MidstateRepr.PackedFe32.number
    c.input_hrp.new.self (hrp_bytes c.args.hrp) (c.input_hrp.ensures (fe32.one ∷ []) c.new-engine.ensures)

pub returns-clause-walk : goal.returns-clause-walk
returns-clause-walk g c =
    walk_holds g.I.Iterator.next_gives _ _ (EndsInChecksum (IsChecksumOf g.Ck.Checksum.code (hrp_bytes c.args.hrp))) _ _ c.fuse.ensures.source c.fuse.ensures.done
    (returns-clause-gives g c)

pub returns-clause-runs : goal.returns-clause-runs
returns-clause-runs g c =
    runs_hold g.I.Iterator.next_gives _ _ (EndsInChecksum (IsChecksumOf g.Ck.Checksum.code (hrp_bytes c.args.hrp))) _ _ c.fuse.ensures.source c.fuse.ensures.done
    (returns-clause-gives g c)
