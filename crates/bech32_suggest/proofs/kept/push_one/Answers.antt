use Rattle.std.specs.Prelude.{string_bytes}
use Rattle.std.proofs.Common.{◌≡◌, true, false, sym, ◌∙◌}
use Rattle.bech32_hrp.specs.HrpBytes.{hrp_bytes}
use Rattle.bech32_suggest.proofs.Adding.{added_told, passed_told}
use Rattle.bech32_suggest.proofs.kept.push_one.Goals as goal

pub returns-then-is_among : goal.returns-then-is_among
returns-then-is_among g c =
    let among = rw c.as_slice.ensures.value at c.is_among.ensures in
    passed_told (hrp_bytes c.args.wanted.now.hrp.now) c.args.wanted.now.typed.now (λ s. (string_bytes s.text, (s.mending, s.place))) c.args.text.now c.args.found.now.items (among.0 c.if-is_among.true)

pub returns : goal.returns
returns g c =
    let among = rw c.as_slice.ensures.value at c.is_among.ensures in
    let told = rw (c.as_bytes.ensures.value, c.as_bytes-2.ensures.value) at c.compared-mending.ensures in
    added_told (hrp_bytes c.args.wanted.now.hrp.now) c.args.wanted.now.typed.now (λ s. (string_bytes s.text, (s.mending, s.place))) c.args.text.now c.args.found.now.items c.push.new.self.items _
    (λ m. let k : true ≡ false = sym (among.1 m) ∙ c.if-is_among.false in absurd (cc k))
    (c.is_meant.ensures.0 c.if-not-is_meant.false)
    c.in_ok-push.ensures.items
    (λ i. (c.in_ok-text.ensures.ok i, (told.0 i, told.1 i)))
