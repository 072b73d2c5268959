use Rattle.bech32_hrp.proofs.HrpParts.{padded-lower, graphic-lower}
use Rattle.bech32_hrp.proofs.Hrp.lower.Goals as goal

pub invariant_of-result : goal.invariant_of-result
invariant_of-result c = record {
  size_fits = c.args.self.now.size_fits;
  zeros_behind = padded-lower c.args.self.now _ c.make_ascii_lowercase.ensures.after;
  all_graphic = graphic-lower c.args.self.now _ c.make_ascii_lowercase.ensures.after;
}
