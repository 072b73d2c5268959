-- The first place that passes a test, where a caller takes the number of bytes for none.
use Rattle.std.specs.Prelude.{position, unwrap_or}
use Rattle.std.proofs.Common.{◌≡◌, ℕ, Bool, not, List, Some, None, length, ltb, refl, arith}
use Rattle.std.specs.List.{position_or_len}
use Rattle.std.proofs.lemmas.Bool.{cond_both, ltb-false}
use Rattle.std.proofs.lemmas.List.Sums.{prefix_len-le-length}

pub unwrap-position : (p : ℕ → Bool) (xs : List ℕ) → unwrap_or (position p xs) (length xs) ≡ position_or_len p xs
unwrap-position p xs =
    let n = position_or_len p xs in
    cond_both (ltb n (length xs)) (Some n) None (λ o. unwrap_or o (length xs) ≡ n) (λ e. refl)
    (λ e. omega (arith, ltb-false n (length xs) e, prefix_len-le-length (λ x. not (p x)) xs))
