use Rattle.std.proofs.Common.{◌<◌, ◌≤◌, ◌-◌, length, arith}
use Rattle.bech32_descriptor.proofs.RowsOfWords.{first_power, next_power}
use Rattle.bech32_descriptor.proofs.rows.next_word.Goals as goal

pub returns-then-x-lt32 : goal.returns-then-x-lt32
returns-then-x-lt32 c =
    let low : length c.args.rows.now < 32 = omega arith in
    first_power (length c.args.rows.now) c.first_word.result low c.first_word.ensures

pub raised-requires : goal.raised-requires
raised-requires c =
    let before : length c.args.rows.now - 32 < length c.args.rows.now = omega arith in
    (_, c.requires.each (length c.args.rows.now - 32) before)

pub returns : goal.returns
returns c =
    let high : 32 ≤ length c.args.rows.now = omega arith in
    let before : length c.args.rows.now - 32 < length c.args.rows.now = omega arith in
    next_power (length c.args.rows.now) c.raised.result high (c.raised.ensures _ (c.requires.each (length c.args.rows.now - 32) before))
