use Rattle.std.specs.Prelude.{string_bytes}
use Rattle.std.proofs.Common.{◌≡◌, true, false, sym, ◌∙◌, ap}
use Rattle.bech32_hrp.specs.HrpBytes.{hrp_bytes}
use Rattle.bech32_meant.specs.Added.{IsInUseUnder}
use Rattle.bech32_meant.proofs.Adding.{added_told, failed_told, passed_told}
use Rattle.bech32_meant.proofs.added.push_one.Goals as goal

pub returns-then-is_found : goal.returns-then-is_found
returns-then-is_found g c =
    let found = rw c.as_slice.ensures.value at c.is_found.ensures in
    passed_told (IsInUseUnder (hrp_bytes c.args.hrp.now)) c.args.slips (λ s. (string_bytes s.text, s.slips)) c.args.text.now c.args.found.now.items (found.0 c.if-is_found.true)

pub returns-then-not-is_wanted : goal.returns-then-not-is_wanted
returns-then-not-is_wanted g c =
    failed_told (IsInUseUnder (hrp_bytes c.args.hrp.now)) c.args.slips (λ s. (string_bytes s.text, s.slips)) c.args.text.now c.args.found.now.items
    (λ is. let k : true ≡ false = sym (c.is_wanted.ensures.1 is) ∙ c.if-not-is_wanted.true in absurd (cc k))

pub returns : goal.returns
returns g c =
    let found = rw c.as_slice.ensures.value at c.is_found.ensures in
    added_told (IsInUseUnder (hrp_bytes c.args.hrp.now)) c.args.slips (λ s. (string_bytes s.text, s.slips)) c.args.text.now c.args.found.now.items c.push.new.self.items _
    (λ m. let k : true ≡ false = sym (found.1 m) ∙ c.if-is_found.false in absurd (cc k))
    (c.is_wanted.ensures.0 c.if-not-is_wanted.false)
    c.in_ok-push.ensures.items
    (let same : string_bytes c.in_ok-text.text ≡ c.args.text.now = c.in_ok-text.ensures.ok in ap (λ t. (t, c.args.slips)) same)
