use Rattle.bech32_checksum.specs.Encoded.{IsEncodedElements}
use Rattle.bech32_hrp.specs.HrpBytes.{hrp_bytes}
use Rattle.bech32_bits.proofs.AdaptorWalks.{walk_holds, runs_hold}
use Rattle.bech32_encode.specs.WitnessVersion.{version_steps}
use Rattle.bech32_encode.proofs.EncodedTexts.{encoded_elements}
use Rattle.bech32_encode.proofs.elements.Fe32Iter.new.Goals as goal

pub returns-clause-gives : goal.returns-clause-gives
returns-clause-gives g c xs = encoded_elements g.Ck.Checksum.code (hrp_bytes c.args.hrp.now) xs _ (c.new_hrp.ensures.gives xs) _ c.new.ensures

pub returns-clause-walk : goal.returns-clause-walk
returns-clause-walk g c =
    walk_holds (version_steps g.I.Iterator.next_gives) _ _ (IsEncodedElements g.Ck.Checksum.code (hrp_bytes c.args.hrp.now))
    _ _ c.new_hrp.ensures.source c.new_hrp.ensures.fresh (returns-clause-gives g c)

pub returns-clause-runs : goal.returns-clause-runs
returns-clause-runs g c =
    runs_hold (version_steps g.I.Iterator.next_gives) _ _ (IsEncodedElements g.Ck.Checksum.code (hrp_bytes c.args.hrp.now))
    _ _ c.new_hrp.ensures.source c.new_hrp.ensures.fresh (returns-clause-gives g c)
