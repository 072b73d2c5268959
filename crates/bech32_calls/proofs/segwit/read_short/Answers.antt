use Rattle.std.proofs.Common.{arith}
use Rattle.bech32_calls.proofs.segwit.read_short.Goals as goal

pub returns-in-Err : goal.returns-in-Err
returns-in-Err c = c.refusal_of_unread.ensures c.args.text.now (omega (arith, c.if-text-gt-MAX_STRING_LENGTH.false)) c.in-Err.ensures
