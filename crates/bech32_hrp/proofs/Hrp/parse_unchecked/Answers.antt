use Rattle.std.proofs.Common.{◌≡◌, ap, ◌∙◌}
use Rattle.bech32_hrp.specs.Hrp.{padded}
use Rattle.bech32_hrp.proofs.HrpParts.{take-unchecked, padded-unchecked, graphic-unchecked}
use Rattle.bech32_hrp.proofs.Hrp.parse_unchecked.Goals as goal

pub invariant_of-result : goal.invariant_of-result
invariant_of-result c =
    let row : c.pad-buf.result ≡ padded c.args.hrp.now = c.pad-buf.ensures ∙ ap padded c.as_bytes.ensures.value in
    record {
      size_fits = c.requires;
      zeros_behind = padded-unchecked c.args.hrp.now _ _ row c.put_x.ensures;
      all_graphic = graphic-unchecked c.args.hrp.now _ _ row c.put_x.ensures;
    }

pub returns : goal.returns
returns c = take-unchecked c.args.hrp.now _ _ (c.pad-buf.ensures ∙ ap padded c.as_bytes.ensures.value) c.put_x.ensures
