use Rattle.std.proofs.Common.{rules, ◌≡◌, refl}
use Rattle.bech32_hrp.specs.Hrp.{lowered}
use Rattle.bech32_hrp.specs.HrpBytes.{hrp_bytes}
use Rattle.bech32_decode.specs.Parts.{address_part}
use Rattle.bech32_decode.specs.Text.{HasHrp}
use Rattle.bech32_suggest.proofs.Adding.{part_under}
use Rattle.bech32_meant.proofs.added.is_address_under.Goals as goal

pub returns-in-Ok : goal.returns-in-Ok
returns-in-Ok c =
    let e = rw c.in-Ok.is at c.new.ensures in
    let has : HasHrp c.args.text.now (address_part c.in-Ok.address) = (e.parts.data_part, e.parts.accepted.grammar) in (
      λ yes. record { address = e.accepts.0 refl; part = address_part c.in-Ok.address; has_part = has; same_part = search rules },
      λ is. let same : lowered (address_part c.in-Ok.address) ≡ lowered (hrp_bytes c.args.hrp.now) = part_under (hrp_bytes c.args.hrp.now) c.args.text.now (address_part c.in-Ok.address) has is in search rules,
    )
