use Rattle.bech32_hrp.proofs.HrpParts.{padded-from_front}
use Rattle.bech32_hrp.proofs.pad.Goals as goal

pub returns : goal.returns
returns c = padded-from_front c.args.bytes.now _ c.copy_from_slice.ensures.after
