use Rattle.std.specs.Prelude.{IsTrue, ◌↔◌}
use Rattle.std.specs.List.{Contains}
use Rattle.std.proofs.Common.{sym, subst}
use Rattle.std.proofs.lemmas.List.Sorted.{searched, IsNonDecreasingBy-from_sort}
use Rattle.bech32_detect.proofs.Searched.{searched_any}
use Rattle.bech32_detect.proofs.search.is_among.Goals as goal

pub returns : goal.returns
returns c =
    subst (λ b. IsTrue b ↔ Contains c.args.rows.now c.args.row) (sym c.is_ok.ensures.value)
    (searched_any c.args.rows.now c.args.row c.binary_search.result
    (searched c.args.rows.now c.args.row c.binary_search.result c.binary_search.ensures.position
    (λ i j le below. IsNonDecreasingBy-from_sort (λ x. x) c.args.rows.now c.requires i j 0 le below)))
