use Rattle.std.proofs.Common.{arith, sym}
use Rattle.bech32_suggest.proofs.Errors.{of_few, of_read}
use Rattle.bech32_suggest.proofs.chance.errors_for.Goals as goal

pub returns-then-size-lt10 : goal.returns-then-size-lt10
returns-then-size-lt10 c = sym (of_few c.args.size c.args.unread c.if-size-lt10.true)

pub returns-in-0 : goal.returns-in-0
returns-in-0 c = rw c.in-0.is (sym (of_read c.args.size (omega (arith, c.if-size-lt10.false)) c.requires))
