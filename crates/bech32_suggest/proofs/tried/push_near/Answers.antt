use Rattle.std.specs.Prelude.{string_bytes}
use Rattle.bech32_hrp.specs.HrpBytes.{hrp_bytes}
use Rattle.bech32_suggest.specs.Suggestions.{either_code}
use Rattle.bech32_suggest.proofs.Adding.{adds_near}
use Rattle.bech32_suggest.proofs.tried.push_near.Goals as goal

pub returns : goal.returns
returns g c =
    let w = c.args.wanted.now in
    adds_near (hrp_bytes w.hrp.now) w.typed.now c.args.reading.now.text.now (either_code c.args.is_bech32m) _ _ c.in_ok-near.near.items c.as_slice.result.now c.push_each.result
    c.as_slice.ensures.value (λ m. (m.listing, string_bytes m.text)) w.unread.now w.errors c.in_ok-near.ensures c.push_each.ensures
