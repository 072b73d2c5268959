use Rattle.bech32_decode.proofs.Addresses.{outcome-from_segwit}
use Rattle.bech32_decode.proofs.address.SegwitHrpstring.of_unchecked.Goals as goal

pub returns : goal.returns
returns g c =
    outcome-from_segwit g.Ck.Checksum.code c.args.unchecked c.in_ok-checked.checked c.in_ok-checked.ensures.0 c.in_ok-checked.ensures.1 c.validate_segwit.result c.validate_segwit.ensures
