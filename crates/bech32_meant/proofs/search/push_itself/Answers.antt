use Rattle.std.specs.Prelude.{string_bytes}
use Rattle.std.proofs.Common.{◌≡◌, ◌<◌, ◌++◌, ◌∙◌, ℕ, List, ap, drop, get_or, length, map, refl, rules, subst, sym}
use Rattle.bech32_hrp.specs.HrpBytes.{hrp_bytes}
use Rattle.bech32_suggest.specs.Suggestions.{IsAddressUnder}
use Rattle.bech32_typed.specs.Fronts.{front_of}
use Rattle.bech32_typed.specs.declared.fronts.Front.{Front}
use Rattle.bech32_meant.specs.Added.{AddsAll, AddsIf, Answer}
use Rattle.bech32_meant.proofs.Itself.{itself-first}
use Rattle.bech32_meant.proofs.search.push_itself.Goals as goal

pub returns : goal.returns
returns g c =
    let Adds = AddsIf (IsAddressUnder (hrp_bytes c.args.hrp.now)) 0 in
    let right = c.args.right.now in
    let text = c.args.text.now in
    let fs = c.args.fronts.now in
    let before : List Answer = map (λ s. (string_bytes s.text, s.slips)) c.args.found.now.items in
    let after : List Answer = map (λ s. (string_bytes s.text, s.slips)) c.push_address.new.found.items in
    let front : Front = get_or fs 0 (front_of 0 0) in
    let none : front.slips ≡ 0 = sym (ap (λ f. f.slips) c.front_at-front.ensures) ∙ c.if-front-ne0.false in
    let some : 0 < length fs = search rules in
    let same : c.as_slice.result.now ≡ right ++ drop front.size text = c.as_slice.ensures.value ∙ c.in_ok-one.ensures ∙ ap (λ f. right ++ drop f.size text) c.front_at-front.ensures in
    subst (λ (ts : List (List ℕ)). AddsAll Adds before ts after) (sym (itself-first right text fs some none))
    (after, subst (λ (t : List ℕ). Adds before t after) same c.in_ok-push_address.ensures, refl)
