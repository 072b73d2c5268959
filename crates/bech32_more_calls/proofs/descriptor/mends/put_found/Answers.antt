use Rattle.std.proofs.Common.{◌<◌, length, refl}
use Rattle.bech32_calls.proofs.Fitting.{are_all, are_few}
use Rattle.bech32_more_calls.proofs.Puts.{all_places, puts_first_mends, puts_mends}
use Rattle.bech32_more_calls.proofs.descriptor.mends.put_found.Goals as goal

pub put_each-put-requires : goal.put_each-put-requires
put_each-put-requires c =
    all_places (λ m. m.edit) (λ m. m.text.items) c.args.most c.args.text.now c.as_slice-mends.result.now c.in-Ok.found.items c.as_slice-mends.ensures.value c.requires c.in-Ok.ensures

pub returns : goal.returns
returns c = record {
  all = λ all.
      puts_mends (λ m. m.edit) (λ m. m.text.items) c.args.most c.args.text.now c.as_slice-mends.result.now c.in-Ok.found.items c.as_slice-mends.ensures.value c.in-Ok.ensures
      c.args.kinds.now c.put_each-put.new.kinds c.args.places.now c.put_each-put.new.places c.args.texts.now c.put_each-put.new.texts
      (length c.as_slice-mends.result.now) c.put_each-put.result refl c.put_each-put.ensures.put (are_all c.put_each-put.result (length c.as_slice-mends.result.now) all);
  first = λ part.
      let less : c.put_each-put.result < length c.as_slice-mends.result.now = are_few c.put_each-put.result (length c.as_slice-mends.result.now) c.put_each-put.ensures.most.within part in
      puts_first_mends (λ m. m.edit) (λ m. m.text.items) c.args.most c.args.text.now c.as_slice-mends.result.now c.in-Ok.found.items c.as_slice-mends.ensures.value c.in-Ok.ensures
      c.args.kinds.now c.put_each-put.new.kinds c.args.places.now c.put_each-put.new.places c.args.texts.now c.put_each-put.new.texts
      (length c.as_slice-mends.result.now) c.put_each-put.result refl c.put_each-put.ensures.put less c.put_each-put.ensures.most;
}
