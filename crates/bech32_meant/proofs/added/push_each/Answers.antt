use Rattle.bech32_hrp.specs.HrpBytes.{hrp_bytes}
use Rattle.bech32_meant.specs.Added.{AddsIf, IsInUseUnder}
use Rattle.bech32_meant.proofs.Adding.{all_of, more_of}
use Rattle.bech32_meant.proofs.added.push_each.Goals as goal

pub loop-one-preserved : goal.loop-one-preserved
loop-one-preserved g c =
    let Adds = AddsIf (IsInUseUnder (hrp_bytes c.args.hrp.now)) c.args.slips in
    more_of Adds g.T.AsText.text_of c.args.texts.now _ _ _ c.loop-one.one-index c.one-item.result c.loop-one-test.true c.loop-one.invariant
    (rw (← c.one-item.is) (rw c.as_text.ensures at c.in_ok-push_one.ensures))

pub returns : goal.returns
returns g c =
    let Adds = AddsIf (IsInUseUnder (hrp_bytes c.args.hrp.now)) c.args.slips in
    all_of Adds g.T.AsText.text_of c.args.texts.now _ _ c.loop-one.one-index c.loop-one-test.false c.loop-one.invariant
