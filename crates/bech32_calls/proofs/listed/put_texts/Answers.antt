use Rattle.std.proofs.Common.{◌≡◌, ◌<◌, ◌∙◌, length, ap, arith}
use Rattle.bech32_calls.proofs.Joined.{most_all, most_at, next_room, next_size, put_next}
use Rattle.bech32_calls.proofs.listed.put_texts.Goals as goal

pub returns-then-text-texts-clause-most : goal.returns-then-text-texts-clause-most
returns-then-text-texts-clause-most g c =
    let less : c.loop-i.i < length c.args.rows.now = c.loop-i-test.true in
    most_at g.T.AsText.text_of c.args.rows.now c.loop-i.i c.index-rows-i.result c.loop-i.end c.as_bytes-text.result.now
    less (c.as_bytes-text.ensures.value ∙ c.as_text.ensures ∙ ap g.T.AsText.text_of c.index-rows-i.is) c.loop-i.invariant.size
    (length c.args.texts.now) c.loop-i.invariant.fits (omega (arith, c.if-text-texts.true, c.loop-i.auto.texts))

pub put_at_front-requires : goal.put_at_front-requires
put_at_front-requires g c =
    let less : c.loop-i.i < length c.args.rows.now = c.loop-i-test.true in
    next_room g.T.AsText.text_of c.args.rows.now c.loop-i.i c.index-rows-i.result c.loop-i.end c.as_bytes-text.result.now
    less (c.as_bytes-text.ensures.value ∙ c.as_text.ensures ∙ ap g.T.AsText.text_of c.index-rows-i.is) c.loop-i.invariant.size
    c.loop-i.texts (omega (arith, c.if-text-texts.false))

pub loop-i-preserved : goal.loop-i-preserved
loop-i-preserved g c =
    let less : c.loop-i.i < length c.args.rows.now = c.loop-i-test.true in
    record {
      size = next_size g.T.AsText.text_of c.args.rows.now c.loop-i.i c.index-rows-i.result c.loop-i.end c.as_bytes-text.result.now
          less (c.as_bytes-text.ensures.value ∙ c.as_text.ensures ∙ ap g.T.AsText.text_of c.index-rows-i.is) c.loop-i.invariant.size;
      fits = omega (arith, c.if-text-texts.false, c.loop-i.auto.texts, c.loop-i.invariant.fits);
      buffer = put_next g.T.AsText.text_of c.args.rows.now c.loop-i.i c.index-rows-i.result c.loop-i.end c.as_bytes-text.result.now
          less (c.as_bytes-text.ensures.value ∙ c.as_text.ensures ∙ ap g.T.AsText.text_of c.index-rows-i.is) c.loop-i.invariant.size
          c.args.texts.now c.loop-i.texts c.put_at_front.new.buffer c.loop-i.invariant.buffer c.put_at_front.ensures.buffer;
    }

pub returns-clause-most : goal.returns-clause-most
returns-clause-most g c =
    let all : c.loop-i.i ≡ length c.args.rows.now = omega (arith, c.loop-i-test.false, c.loop-i.auto.i-end) in
    most_all g.T.AsText.text_of c.args.rows.now (length c.args.texts.now) c.loop-i.i c.loop-i.end all c.loop-i.invariant.size c.loop-i.invariant.fits
