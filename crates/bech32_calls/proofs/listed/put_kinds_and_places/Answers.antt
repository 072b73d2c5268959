use Rattle.std.proofs.Common.{◌<◌, ◌∙◌, length, set, ap, arith}
use Rattle.bech32_calls.proofs.Listings.{put_listed, put_more}
use Rattle.bech32_calls.proofs.listed.put_kinds_and_places.Goals as goal

pub loop-i-preserved : goal.loop-i-preserved
loop-i-preserved g c =
    let rows = c.args.rows.now in
    let i = c.loop-i.i in
    let less : i < length rows = c.loop-i-test.true in
    record {
      kinds =
          ap (set c.loop-i.kinds i) (c.kind.ensures ∙ ap g.R.Row.kind_of c.index-rows-i.is)
          ∙ put_more g.R.Row.kind_of rows c.args.kinds.now c.loop-i.kinds i c.index-rows-i.result less (omega (arith, less, c.requires.kinds)) c.loop-i.invariant.kinds;
      places =
          ap (set c.loop-i.places i) (c.place.ensures ∙ ap g.R.Row.place_of c.index-rows-i-in-loop-i.is)
          ∙ put_more g.R.Row.place_of rows c.args.places.now c.loop-i.places i c.index-rows-i-in-loop-i.result less (omega (arith, less, c.requires.places)) c.loop-i.invariant.places;
    }

pub returns-clause-kinds : goal.returns-clause-kinds
returns-clause-kinds g c =
    put_listed g.R.Row.kind_of c.args.rows.now c.args.kinds.now c.loop-i.kinds c.loop-i.i (omega (arith, c.loop-i-test.false, c.loop-i.auto.i-end)) c.requires.kinds c.loop-i.invariant.kinds

pub returns-clause-places : goal.returns-clause-places
returns-clause-places g c =
    put_listed g.R.Row.place_of c.args.rows.now c.args.places.now c.loop-i.places c.loop-i.i (omega (arith, c.loop-i-test.false, c.loop-i.auto.i-end)) c.requires.places c.loop-i.invariant.places
