-- That fewer shares of a split than the threshold say nothing of the secret.
use Rattle.std.specs.Prelude.{◌≡◌, ◌<◌, ◌↔◌, ℕ, List, length, suc}
use Rattle.std.specs.List.{AllByRecursion}
use Rattle.bech32_gf.specs.declared.gf32.Fe32.{Fe32}
use Rattle.bech32_poly.specs.Distinct.{IsOnce}
use Rattle.codex32.specs.HeaderParts.{threshold_number}
use Rattle.codex32.specs.Split.{IsSplit, drawn, random_size, text_at}
use Rattle.codex32.specs.declared.identifier.Identifier.{Identifier}
use Rattle.codex32.specs.declared.threshold.Threshold.{Threshold}

-- numbers of shares, of which there are `count`: none twice, and one fewer than the threshold
pub record AreOneTooFew (t : Threshold) (count : ℕ) (numbers : List ℕ) : Type 0 where
  pub within : AllByRecursion (λ j. j < count) numbers
  pub once : IsOnce numbers
  pub one_fewer : suc (length numbers) ≡ threshold_number t

-- these random bytes split the secret into `count` shares of n characters each, of which those of
-- these numbers are the known ones
pub record DealKnown (t : Threshold) (i : Identifier) (secret random : List ℕ) (count n : ℕ)
    (numbers known : List ℕ) : Type 0 where
  pub texts : List ℕ
  pub is_split : IsSplit t i secret random count n texts
  pub are_known : AllByRecursion (λ j. text_at n texts j ≡ text_at n known j) numbers

-- One choice of the elements that are drawn deals the known shares, and no other does: as many
-- random bytes as are drawn do so exactly where their lowest five bits are these elements.
abbrev pub HasOneDeal : Threshold → Identifier → List ℕ → ℕ → ℕ → List ℕ → List ℕ → Type 0
HasOneDeal t i secret count n numbers known =
    (elements : List Fe32) × (length elements ≡ random_size t (length secret))
    × ((random : List ℕ) → length random ≡ random_size t (length secret)
    → (drawn random ≡ elements) ↔ DealKnown t i secret random count n numbers known)
