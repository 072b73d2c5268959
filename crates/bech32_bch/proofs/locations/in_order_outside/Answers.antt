use Rattle.std.specs.Prelude.{true, false}
use Rattle.std.proofs.Common.{◌≡◌, ◌++◌, ℕ, List, sym, ap, ◌∙◌}
use Rattle.bech32_bch.specs.Search.{ordered}
use Rattle.bech32_bch.proofs.locations.in_order_outside.Goals as goal

refused : {P : Type 0} → false ≡ true → P
refused h = absurd (cc h)

pub returns-then-has_common-clause-ordered : goal.returns-then-has_common-clause-ordered
returns-then-has_common-clause-ordered g c = c.has_common.ensures.yes c.if-has_common.true

pub returns-clause-ordered : goal.returns-clause-ordered
returns-clause-ordered g c =
    let list_is = c.in_ok-push_ordered.ensures.ordered ∙ ap (λ (u : List ℕ). u ++ ordered c.args.rising.now) c.new-list.ensures in
    (list_is, λ i m k. refused (sym c.if-has_common.false ∙ c.has_common.ensures.no i m k))
