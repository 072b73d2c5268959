use Rattle.bech32_hrp.specs.HrpBytes.{hrp_bytes}
use Rattle.bech32_suggest.proofs.Adding.{all_of, more_of}
use Rattle.bech32_suggest.proofs.kept.push_each.Goals as goal

pub loop-one-preserved : goal.loop-one-preserved
loop-one-preserved g c =
    let w = c.args.wanted.now in
    more_of (hrp_bytes w.hrp.now) w.typed.now g.T.AsText.text_of c.args.texts.now _ _ _ c.loop-one.one-index c.one-item.result c.loop-one-test.true c.one-item.is c.loop-one.invariant
    (rw c.as_text.ensures at c.in_ok-push_one.ensures)

pub returns : goal.returns
returns g c =
    let w = c.args.wanted.now in
    all_of (hrp_bytes w.hrp.now) w.typed.now g.T.AsText.text_of c.args.texts.now _ _ c.loop-one.one-index c.loop-one-test.false c.loop-one.invariant
