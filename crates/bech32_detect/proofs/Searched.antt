-- What a search in a sorted list finds.
use Rattle.std.specs.Prelude.{IsTrue, ◌↔◌}
use Rattle.std.specs.Result.{MatchResult, is_ok}
use Rattle.std.specs.List.{Contains}
use Rattle.std.proofs.Common.{◌≡◌, ℕ, ◌<◌, ◌≤◌, List, length, get_or, Result, Ok, Err, subst, ◌∙◌, refl, arith}
use Rattle.std.proofs.Math.Decide.{dec_lt}
use Rattle.std.proofs.lemmas.List.{get_or_default}
use Rattle.std.proofs.lemmas.List.Elements.{Contains-get_or}

pub searched_any : (xs : List ℕ) (x : ℕ) (r : Result ℕ ℕ)
    → MatchResult r (λ i. (i < length xs) × (get_or xs i 0 ≡ x)) (λ i. (i ≤ length xs) × ((k : ℕ) → k < i → get_or xs k 0 < x) × ((k : ℕ) → i ≤ k → k < length xs → x < get_or xs k 0))
    → IsTrue (is_ok r) ↔ Contains xs x
searched_any xs x (Ok i) h = (λ _. subst (Contains xs) h.1 (Contains-get_or xs i 0 h.0), λ _. refl)
searched_any xs x (Err i) (within, low, high) = (λ e. cc, λ k. absurd (nowhere k))
  where
    nowhere : Contains xs x → ⊥
    nowhere (k, below, is) =
        let same : get_or xs k 0 ≡ x = get_or_default xs k 0 x below ∙ is in
        elim (dec_lt k i) [
          | yes p ↦ (let less : get_or xs k 0 < x = low k p in omega arith)
          | no p ↦ (let more : x < get_or xs k 0 = high k (omega arith) below in omega arith)
        ]
