-- As many words as are asked for.
use Rattle.std.proofs.Common.{◌≡◌, ◌≢◌, ℕ, true, false, cond, List, [], ◌∷◌, refl, sym, ap, subst, ◌∙◌, Option, Some, None}
use Rattle.line_program.specs.Words.{is_empty}
use Rattle.b32_replies.specs.Counted.{first_and, one_of, with_first}

-- no word, several, or an empty one
pub one-none : (all : List (List ℕ)) → ((word : List ℕ) → all ≡ word ∷ [] → word ≡ []) → one_of all ≡ None
one-none [] h = refl
one-none (x ∷ []) h = let none : x ≡ [] = h x refl in subst (λ (w : List ℕ). one_of (w ∷ []) ≡ None) (sym none) refl
one-none (x ∷ y ∷ more) h = refl

pub one-some : (all : List (List ℕ)) (word : List ℕ) → all ≡ word ∷ [] → word ≢ [] → one_of all ≡ Some word
one-some all [] e some = absurd (some refl)
one-some all (b ∷ bs) e some = ap one_of e

module _ {A : Type 0} (others_of : List (List ℕ) → Option A) where
  -- whether or not the first is empty
  either : (first : List ℕ) (o : Option A) → o ≡ None → cond (is_empty first) None (with_first first o) ≡ None
  either first o e =
      elim (is_empty first) as (λ b. cond b None (with_first first o) ≡ None) [
        | true ↦ refl
        | false ↦ ap (with_first first) e
      ]

  -- with no second word, or an empty one before it
  pub first-none : (all : List (List ℕ)) → others_of [] ≡ None → ((first second : List ℕ) (rest : List (List ℕ)) → all ≡ first ∷ second ∷ rest → first ≡ [])
      → first_and others_of all ≡ None
  first-none [] e h = refl
  first-none (x ∷ []) e h = either x (others_of []) e
  first-none (x ∷ y ∷ more) e h =
      let none : x ≡ [] = h x y more refl in
      subst (λ (w : List ℕ). first_and others_of (w ∷ y ∷ more) ≡ None) (sym none) refl

  -- with no others behind it
  pub others-none : (all rest : List (List ℕ)) (first : List ℕ) → all ≡ first ∷ rest → others_of rest ≡ None → first_and others_of all ≡ None
  others-none all rest first e none = ap (first_and others_of) e ∙ either first (others_of rest) none

  pub both : (all rest : List (List ℕ)) (first : List ℕ) (found : A) → all ≡ first ∷ rest → first ≢ [] → others_of rest ≡ Some found
      → first_and others_of all ≡ Some (first, found)
  both all rest [] found e some is = absurd (some refl)
  both all rest (b ∷ bs) found e some is = ap (first_and others_of) e ∙ ap (with_first (b ∷ bs)) is
