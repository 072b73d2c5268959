use Rattle.bech32_decode.proofs.PlaceTable.{entry, entry-small}
use Rattle.bech32_decode.proofs.places.at_place.Goals as goal
use Rattle.std.proofs.Common.{arith}

pub returns : goal.returns
returns c =
    let is = entry c.args.place c.args.character c.requires (omega arith) in
    record { value = is; small = entry-small c.args.place c.args.character _ c.requires is }
