use Rattle.std.specs.Prelude.{string_bytes}
use Rattle.bech32_hrp.specs.HrpBytes.{hrp_bytes}
use Rattle.bech32_suggest.specs.Suggestions.{either_code}
use Rattle.bech32_meant.proofs.Adding.{adds_near}
use Rattle.bech32_meant.proofs.added.push_near.Goals as goal

pub returns : goal.returns
returns g c =
    let asked = c.args.asked.now in
    adds_near (hrp_bytes asked.hrp.now) asked.slips (either_code c.args.is_bech32m) c.args.reading.now.text.now _ _ c.in_ok-near.near.items c.as_slice.result.now c.push_each.result
    c.as_slice.ensures.value (λ m. (m.listing, string_bytes m.text)) c.args.unread.now c.args.errors c.in_ok-near.ensures c.push_each.ensures
