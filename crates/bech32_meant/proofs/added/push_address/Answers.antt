use Rattle.std.specs.Prelude.{map, string_bytes}
use Rattle.std.proofs.Common.{ℕ, List, subst}
use Rattle.bech32_hrp.specs.HrpBytes.{hrp_bytes}
use Rattle.bech32_suggest.specs.Suggestions.{IsAddressUnder}
use Rattle.bech32_meant.specs.Added.{AddsIf, Answer}
use Rattle.bech32_meant.proofs.Adding.{failed_told}
use Rattle.bech32_meant.proofs.Refused.{utf8_address}
use Rattle.bech32_meant.proofs.added.push_address.Goals as goal

pub returns-in_default : goal.returns-in_default
returns-in_default g c =
    failed_told (IsAddressUnder (hrp_bytes c.args.hrp.now)) 0 (λ s. (string_bytes s.text, s.slips)) c.args.bytes.now c.args.found.now.items
    (λ is. c.in_default.ensures.cases.0 (utf8_address (hrp_bytes c.args.hrp.now) c.args.bytes.now is))

pub returns : goal.returns
returns g c =
    let before : List Answer = map (λ s. (string_bytes s.text, s.slips)) c.args.found.now.items in
    let after : List Answer = map (λ s. (string_bytes s.text, s.slips)) c.push_own.new.found.items in
    subst (λ (t : List ℕ). AddsIf (IsAddressUnder (hrp_bytes c.args.hrp.now)) 0 before t after) c.in-Ok.ensures.cases.0 c.in_ok-push_own.ensures
