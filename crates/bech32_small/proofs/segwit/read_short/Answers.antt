use Rattle.std.proofs.Common.{◌≤◌, length, arith}
use Rattle.bech32_small.proofs.Numbers.{read_number}
use Rattle.bech32_small.proofs.segwit.read_short.Goals as goal
use Rattle.bech32_refusals.specs.SegwitRules.{max_address_length}

pub returns : goal.returns
returns c =
    let few : length c.args.text.now ≤ max_address_length = omega (arith, c.if-text-gt-MAX_STRING_LENGTH.false) in
    read_number _ c.args.text.now c.read.result few c.read.ensures
