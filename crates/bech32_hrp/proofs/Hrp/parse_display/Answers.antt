use Rattle.std.proofs.lemmas.Option.{IfSome_then}
use Rattle.std.proofs.Common.{inr, sym}
use Rattle.bech32_hrp.proofs.Pieces.{holds_after, not_err}
use Rattle.bech32_hrp.proofs.Hrp.parse_display.Goals as goal

pub returns-clause-parsed : goal.returns-clause-parsed
returns-clause-parsed g c = IfSome_then (g.T.Display.output c.args.value) (not_err _ (sym c.if-is_err.ensures.value) c.write.ensures.writes)
    (λ text went small. inr (c.finish.ensures.parsed text (holds_after _ text _ went c.new-sink.ensures) small))

pub returns-clause-long : goal.returns-clause-long
returns-clause-long g c = IfSome_then (g.T.Display.output c.args.value) (not_err _ (sym c.if-is_err.ensures.value) c.write.ensures.writes)
    (λ text went large. inr (c.finish.ensures.long text (holds_after _ text _ went c.new-sink.ensures) large))
