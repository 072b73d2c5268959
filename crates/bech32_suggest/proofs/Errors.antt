-- How many errors are looked for, at each length.
use Rattle.std.proofs.Common.{◌≡◌, ℕ, ◌+◌, ◌-◌, ◌<◌, ◌≤◌, Bool, true, false, cond, eqb, ltb, Option, Some, None, refl, ap, subst, arith}
use Rattle.std.proofs.lemmas.Bool.{agree_below_at, eqb-true, lt-ltb}
use Rattle.bech32_suggest.specs.Chance.{most_errors, most_safe}
use Rattle.bech32_suggest.specs.Typed.{max_typed_length}

-- whether it is this number
abbrev is : ℕ → Option ℕ → Bool
is n None = false
is n (Some m) = eqb m n

from_is : (n : ℕ) (o : Option ℕ) → is n o ≡ true → o ≡ Some n
from_is n None h = let k : false ≡ true = h in absurd (cc k)
from_is n (Some m) h = ap Some (eqb-true m n h)

-- a number of errors that is looked for at each of `count` lengths from `from` on is looked for at
-- this one
module _ (unread errors from count : ℕ) (same : (k : ℕ) → k < count → is errors (most_errors (from + k) unread) ≡ true) where
  at : (n : ℕ) → from ≤ n → n < from + count → most_errors n unread ≡ Some errors
  at n low high =
      let back : from + (n - from) ≡ n = omega (arith, low) in
      subst (λ (m : ℕ). most_errors m unread ≡ Some errors) back (from_is errors (most_errors (from + (n - from)) unread) (same (n - from) (omega (arith, low, high))))

pub of_few : (n unread : ℕ) → n < 10 → most_errors n unread ≡ None
of_few n unread h = ap (λ (b : Bool). cond b None (cond (ltb 3 unread) None (most_safe n unread))) (lt-ltb n 10 h)

pub of_read : (n : ℕ) → 10 ≤ n → n ≤ max_typed_length → most_errors n 0 ≡ Some 2
of_read n low high =
    at 0 2 10 max_typed_length (λ k l. agree_below_at (λ k. is 2 (most_errors (10 + k) 0)) (λ _. true) max_typed_length k refl l) n low (omega (arith, high))
