use Rattle.std.proofs.Common.{◌<◌, arith}
use Rattle.std.specs.Prelude.{IfSome}
use Rattle.bech32_checksum.specs.Encoded.{IsEncodedText}
use Rattle.bech32_hrp.specs.HrpBytes.{hrp_bytes}
use Rattle.bech32_hrp.proofs.HrpParts.{hrp_bytes-ascii, length-hrp_bytes}
use Rattle.bech32_encode.specs.WitnessVersion.{version_steps}
use Rattle.bech32_encode.proofs.EncodedTexts.{encoded_text}
use Rattle.bech32_encode.proofs.FrontedWalks.{walk_holds_known, runs_hold_known}
use Rattle.bech32_encode.proofs.texts.CharIter.new.Goals as goal

pub invariant_of-result : goal.invariant_of-result
invariant_of-result g c = record {
  short = rw c.as_bytes.ensures (omega (arith, length-hrp_bytes c.args.hrp.now, c.args.hrp.now.size_fits));
  ascii = rw c.as_bytes.ensures (hrp_bytes-ascii c.args.hrp.now);
}

pub returns-clause-gives : goal.returns-clause-gives
returns-clause-gives g c xs = encoded_text g.Ck.Checksum.code (hrp_bytes c.args.hrp.now) xs _ (c.new_hrp.ensures.gives xs) _ c.as_bytes.ensures

pub returns-clause-walk : goal.returns-clause-walk
returns-clause-walk g c =
    walk_holds_known (version_steps g.I.Iterator.next_gives) _ _ (λ r. IfSome r (λ x. x < 128)) (IsEncodedText g.Ck.Checksum.code (hrp_bytes c.args.hrp.now))
    _ _ c.new_hrp.ensures.source c.new_hrp.ensures.fresh (returns-clause-gives g c)

pub returns-clause-runs : goal.returns-clause-runs
returns-clause-runs g c =
    runs_hold_known (version_steps g.I.Iterator.next_gives) _ _ (λ r. IfSome r (λ x. x < 128)) (IsEncodedText g.Ck.Checksum.code (hrp_bytes c.args.hrp.now))
    _ _ c.new_hrp.ensures.source c.new_hrp.ensures.fresh (returns-clause-gives g c)
