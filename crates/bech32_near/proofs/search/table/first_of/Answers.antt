use Rattle.std.specs.Prelude.{get_or}
use Rattle.std.specs.Result.{MatchResult}
use Rattle.std.proofs.Common.{◌≤◌, ◌<◌, ℕ, List, Result, subst}
use Rattle.bech32_near.proofs.Entries.{found_first}
use Rattle.bech32_near.proofs.search.table.first_of.Goals as goal

pub returns-in-Ok : goal.returns-in-Ok
returns-in-Ok c = λ sorted k low.
    let xs : List ℕ = c.args.entries.now in
    let before : (k : ℕ) → k < c.in-Ok.place → get_or xs k 0 ≤ c.entry_of.result =
    subst (λ (r : Result ℕ ℕ). MatchResult r (λ i. (k : ℕ) → k < i → get_or xs k 0 ≤ c.entry_of.result) (λ i. (k : ℕ) → k < i → get_or xs k 0 ≤ c.entry_of.result))
    c.in-Ok.is (found_first xs c.entry_of.result c.binary_search.result sorted c.binary_search.ensures.position) in
    subst (λ n. get_or xs k 0 ≤ n) c.entry_of.ensures (before k low)

pub returns-in-Err : goal.returns-in-Err
returns-in-Err c = λ sorted k low.
    let xs : List ℕ = c.args.entries.now in
    let before : (k : ℕ) → k < c.in-Err.place → get_or xs k 0 ≤ c.entry_of.result =
    subst (λ (r : Result ℕ ℕ). MatchResult r (λ i. (k : ℕ) → k < i → get_or xs k 0 ≤ c.entry_of.result) (λ i. (k : ℕ) → k < i → get_or xs k 0 ≤ c.entry_of.result))
    c.in-Err.is (found_first xs c.entry_of.result c.binary_search.result sorted c.binary_search.ensures.position) in
    subst (λ n. get_or xs k 0 ≤ n) c.entry_of.ensures (before k low)
