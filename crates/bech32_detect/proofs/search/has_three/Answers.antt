use Rattle.std.specs.Prelude.{bit_xor}
use Rattle.std.proofs.Common.{ℕ, get_or, rules, tests}
use Rattle.std.proofs.lemmas.Bool.{MatchBool-at_true}
use Rattle.std.proofs.lemmas.Iterator.{YieldsList-from_slice, cases_from_any}
use Rattle.std.proofs.lemmas.Iterator.Search.{true_from_Any}
use Rattle.std.proofs.lemmas.List.Elements.{Contains-get_or}
use Rattle.bech32_detect.specs.Rows.{HasPair}
use Rattle.bech32_detect.proofs.search.has_three.Goals as goal

pub returns : goal.returns
returns c =
    let rows = c.args.rows.now in
    let Serves : ℕ → Type 0 = λ first. HasPair rows (bit_xor c.args.sum first) in
    let found =
    cases_from_any _ _ _ Serves (λ first. Serves first → ⊥) c.any.ensures.ran (YieldsList-from_slice rows cc)
    (λ x q k. search (rules, tests)) (λ x q k. search (rules, tests)) in (
      λ t. let w = MatchBool-at_true _ _ t found in (get_or rows w.0 0, Contains-get_or rows w.0 0 w.1, w.2 0),
      λ h. true_from_Any Serves (λ first. Serves first → ⊥) _ _ (λ y p q. q p) found h.0 h.1 h.2,
    )
