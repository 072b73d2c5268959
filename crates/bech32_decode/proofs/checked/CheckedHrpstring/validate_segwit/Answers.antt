use Rattle.std.proofs.Common.{refl}
use Rattle.bech32_decode.proofs.checked.CheckedHrpstring.validate_segwit.Goals as goal

pub returns : goal.returns
returns c =
    let is = c.in_ok-found.ensures in
    record { hrp = refl; elements = is.elements; characters = is.characters; lawful = is.lawful }
