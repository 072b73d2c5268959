use Rattle.std.proofs.Common.{◌<◌, arith}
use Rattle.bech32_descriptor.proofs.Tables.{checksum_places, checksum_places-below}
use Rattle.bech32_descriptor.proofs.alphabet.checksum_place.Goals as goal

pub returns-clause-value : goal.returns-clause-value
returns-clause-value c =
    let byte : c.args.byte < 256 = omega arith in
    checksum_places c.args.byte byte

pub returns-clause-below : goal.returns-clause-below
returns-clause-below c =
    let byte : c.args.byte < 256 = omega arith in
    checksum_places-below c.args.byte byte
