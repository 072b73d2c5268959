use Rattle.std.specs.Prelude.{flat_map}
use Rattle.std.proofs.Common.{◌≡◌, ◌≤◌, length, min, take, ap, arith}
use Rattle.std.proofs.lemmas.List.{length-take-le, take-take}
use Rattle.bech32_calls.proofs.Fitting.{most_of_front}
use Rattle.bech32_calls.proofs.Puts.{put-same}
use Rattle.bech32_calls.proofs.listed.put_rows.Goals as goal

pub put_kinds_and_places-requires : goal.put_kinds_and_places-requires
put_kinds_and_places-requires g c =
    let rows = c.args.rows.now in
    let most = c.min-most.result in
    let n = c.put_texts-put.result in
    let size : length (take most rows) ≡ most = length-take-le most rows (omega (arith, c.min.ensures, c.min-most.ensures)) in
    let few : n ≤ most = omega (arith, size, c.put_texts-put.ensures.most.within) in
    let counted : length (take n rows) ≡ n = length-take-le n rows (omega (arith, few, c.min.ensures, c.min-most.ensures)) in
    record {
      kinds = omega (arith, counted, few, c.min.ensures, c.min-most.ensures);
      places = omega (arith, counted, few, c.min.ensures, c.min-most.ensures);
    }

pub returns-clause-most : goal.returns-clause-most
returns-clause-most g c =
    let rows = c.args.rows.now in
    let is : c.min-most.result ≡ min (min (length rows) (length c.args.kinds.now)) (length c.args.places.now) = omega (arith, c.min.ensures, c.min-most.ensures) in
    most_of_front g.R.AsText.text_of rows (length c.args.kinds.now) (length c.args.places.now) (length c.args.texts.now) c.min-most.result c.put_texts-put.result is c.put_texts-put.ensures.most

pub returns-clause-put : goal.returns-clause-put
returns-clause-put g c =
    let rows = c.args.rows.now in
    let most = c.min-most.result in
    let n = c.put_texts-put.result in
    let size : length (take most rows) ≡ most = length-take-le most rows (omega (arith, c.min.ensures, c.min-most.ensures)) in
    let few : n ≤ most = omega (arith, size, c.put_texts-put.ensures.most.within) in
    let front : flat_map g.R.AsText.text_of (take n (take most rows)) ≡ flat_map g.R.AsText.text_of (take n rows) = ap (flat_map g.R.AsText.text_of) (take-take n most rows few) in
    record {
      kinds_put = c.put_kinds_and_places.ensures.kinds;
      places_put = c.put_kinds_and_places.ensures.places;
      texts_put = put-same (flat_map g.R.AsText.text_of (take n (take most rows))) (flat_map g.R.AsText.text_of (take n rows)) c.args.texts.now c.put_texts-put.new.texts
          (length (flat_map g.R.AsText.text_of (take n (take most rows)))) (length (flat_map g.R.AsText.text_of (take n rows))) front (ap length front) c.put_texts-put.ensures.put;
    }
