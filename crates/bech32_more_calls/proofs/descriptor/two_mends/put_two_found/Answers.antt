use Rattle.std.proofs.Common.{◌<◌, length, refl}
use Rattle.bech32_calls.proofs.Fitting.{are_all, are_few}
use Rattle.bech32_more_calls.proofs.TwoPuts.{puts_first_two_mends, puts_two_mends}
use Rattle.bech32_more_calls.proofs.descriptor.two_mends.put_two_found.Goals as goal

pub returns : goal.returns
returns c = record {
  all = λ all.
      puts_two_mends (λ m. m.edits) (λ m. m.text.items) c.args.text.now c.as_slice-mends.result.now c.in-Ok.found.items c.as_slice-mends.ensures.value c.in-Ok.ensures
      c.args.places.now c.put_each_two-put.new.places c.args.texts.now c.put_each_two-put.new.texts
      (length c.as_slice-mends.result.now) c.put_each_two-put.result refl c.put_each_two-put.ensures.put (are_all c.put_each_two-put.result (length c.as_slice-mends.result.now) all);
  first = λ part.
      let less : c.put_each_two-put.result < length c.as_slice-mends.result.now = are_few c.put_each_two-put.result (length c.as_slice-mends.result.now) c.put_each_two-put.ensures.most.within part in
      puts_first_two_mends (λ m. m.edits) (λ m. m.text.items) c.args.text.now c.as_slice-mends.result.now c.in-Ok.found.items c.as_slice-mends.ensures.value c.in-Ok.ensures
      c.args.places.now c.put_each_two-put.new.places c.args.texts.now c.put_each_two-put.new.texts
      (length c.as_slice-mends.result.now) c.put_each_two-put.result refl c.put_each_two-put.ensures.put less c.put_each_two-put.ensures.most;
}
