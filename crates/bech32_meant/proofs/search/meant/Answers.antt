use Rattle.std.specs.Prelude.{string_bytes}
use Rattle.std.proofs.Common.{◌≡◌, ◌∙◌, ℕ, List, ap, map, subst}
use Rattle.bech32_hrp.specs.HrpBytes.{hrp_bytes}
use Rattle.bech32_typed.specs.Cleaned.{cleaned}
use Rattle.bech32_typed.specs.Fronts.{fronts}
use Rattle.bech32_typed.specs.declared.fronts.Front.{Front}
use Rattle.bech32_meant.specs.Added.{Answer, front_for}
use Rattle.bech32_meant.specs.Meant.{AreAnswers}
use Rattle.bech32_meant.proofs.search.meant.Goals as goal

pub returns-clause-answers : goal.returns-clause-answers
returns-clause-answers g c = λ short.
    let hrp = hrp_bytes c.args.hrp.now in
    let typed = c.args.typed.now in
    let found : List Answer = map (λ s. (string_bytes s.text, s.slips)) c.push_found.new.found.items in
    let right : c.as_bytes.result.now ≡ front_for hrp = c.as_bytes.ensures.value ∙ c.in_ok-right.ensures in
    let text : c.as_slice.result.now ≡ cleaned typed = c.as_slice.ensures.value ∙ c.in_ok-text.ensures in
    let same : c.as_slice-2.result.now ≡ cleaned typed = c.as_slice-2.ensures.value ∙ c.in_ok-text.ensures in
    let fs : c.as_slice-3.result.now ≡ fronts (front_for hrp) (cleaned typed) =
    c.as_slice-3.ensures.value ∙ c.in_ok-fronts.ensures ∙ ap (λ r. fronts r c.as_slice.result.now) right ∙ ap (fronts (front_for hrp)) text in
    subst (λ (l : List Front). AreAnswers hrp (cleaned typed) l found) fs
    (subst (λ (t : List ℕ). AreAnswers hrp t c.as_slice-3.result.now found) same c.in_ok-push_found.ensures.answers)
