-- Lines that ask for nothing.
use Rattle.std.proofs.Common.{◌≡◌, ℕ, Bool, true, false, ◌||◌, List, cond, ap, ◌∙◌, refl, Option, None}
use Rattle.line_program.specs.Words.{words, has_empty_word, request_by}

module _ {Request : Type 0} (of_words : List (List ℕ) → Option Request) (line : List ℕ) where
  -- one whose words ask for nothing
  pub asks-none : (all : List (List ℕ)) → words line ≡ all → of_words all ≡ None → request_by of_words line ≡ None
  asks-none all e none =
      elim (has_empty_word line) as (λ b. cond b None (of_words (words line)) ≡ None) [
        | true ↦ refl
        | false ↦ ap of_words e ∙ none
      ]

  -- one with an empty word
  pub asks-none-empty : has_empty_word line ≡ true → request_by of_words line ≡ None
  asks-none-empty e = ap (λ b. cond b None (of_words (words line))) e

-- where the last of three words is empty
pub or-last : (a b : Bool) → a || (b || true) ≡ true
or-last true b = refl
or-last false true = refl
or-last false false = refl
