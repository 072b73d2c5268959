use Rattle.std.proofs.Common.{rules}
use Rattle.bech32_hrp.specs.Hrp.{lowered}
use Rattle.bech32_hrp.specs.HrpBytes.{hrp_bytes}
use Rattle.bech32_suggest.specs.Suggestions.{AddsFound}
use Rattle.bech32_suggest.specs.Typed.{as_read, unread_locations}
use Rattle.bech32_suggest.proofs.Adding.{all_found, each_found, once_found}
use Rattle.bech32_suggest.proofs.suggestions.found_in.Goals as goal

pub returns : goal.returns
returns g c =
    let typed = c.args.typed.now in
    let hrp = hrp_bytes c.args.hrp.now in
    let adds : AddsFound (as_read typed) (unread_locations typed) c.args.errors hrp (lowered typed) _ _ = search rules in record {
      adds = adds;
      each = each_found hrp (lowered typed) (as_read typed) c.args.errors (unread_locations typed) _ adds;
      once = once_found hrp (lowered typed) (as_read typed) c.args.errors (unread_locations typed) _ adds;
      all = all_found hrp (lowered typed) (as_read typed) c.args.errors (unread_locations typed) _ adds;
    }
