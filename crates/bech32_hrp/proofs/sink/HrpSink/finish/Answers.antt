use Rattle.std.proofs.Common.{arith, ◌≡◌, sym, ◌∙◌}
use Rattle.std.proofs.lemmas.Str.{IsUtf8-from_is_utf8}
use Rattle.std.proofs.lemmas.List.{take_all}
use Rattle.bech32_hrp.proofs.sink.HrpSink.finish.Goals as goal

pub unreachable-requires : goal.unreachable-requires
unreachable-requires c = c.in-Err.ensures.cases.0 (IsUtf8-from_is_utf8 _ (c.args.self.now.whole c.if-self-gt-MAX_HRP_LEN.false))

pub returns-clause-parsed : goal.returns-clause-parsed
returns-clause-parsed c = λ text held small.
    let same : c.in-Ok.text.now ≡ text = c.in-Ok.ensures.cases.0 ∙ held.front ∙ take_all 83 text (omega (arith, held.count, c.if-self-gt-MAX_HRP_LEN.false, small)) in
    rw (sym same) c.parse.ensures.outcome
