use Rattle.std.proofs.Common.{◌∙◌, get_or, ap}
use Rattle.bech32_gf.specs.Fe32.{elements_of}
use Rattle.bech32_decode.specs.Cases.{lower_count, upper_count}
use Rattle.bech32_decode.proofs.TwoAtOnce.{first_two-is, two_is}
use Rattle.bech32_decode.proofs.eights.two_of.Goals as goal

pub returns : goal.returns
returns c =
    let cs = c.args.characters.now in
    let whole = first_two-is cs c.requires in
    let parts = two_is (get_or cs 0 0) (get_or cs 1 0) _ cc in
    record {
      elements = parts.0 ∙ ap elements_of whole;
      lower = parts.1 ∙ ap lower_count whole;
      upper = parts.2 ∙ ap upper_count whole;
    }
