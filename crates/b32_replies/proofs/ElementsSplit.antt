-- Lines of `decode-strict`, `encode-elements` and `decode-elements`.
use Rattle.std.specs.List.{list_any}
use Rattle.std.proofs.Common.{◌≡◌, ℕ, Bool, true, false, ◌||◌, cond, List, [], ◌∷◌, refl, ap, Option, None}
use Rattle.line_program.specs.Words.{words, is_empty}
use Rattle.line_program.proofs.NoRequest.{or-last}
use Rattle.line_program.proofs.Split.{words-some}
use Rattle.b32_replies.specs.Request.{Request}

module _ (request : List (List ℕ) → Option Request) where
  -- arguments that ask for nothing, whether one is empty or not
  pub asks-for-none : (arguments : List (List ℕ)) → request arguments ≡ None → cond (list_any is_empty arguments) None (request arguments) ≡ None
  asks-for-none arguments e = either (list_any is_empty arguments)
    where
      either : (b : Bool) → cond b None (request arguments) ≡ None
      either true = refl
      either false = e

  or-second : (a : Bool) → (a || true) ≡ true
  or-second true = refl
  or-second false = refl

  -- a second argument that is no single word, or an empty one, where no other number of words asks for anything
  pub no-second : (text first : List ℕ) → ((x y : List ℕ) (more : List (List ℕ)) → request (first ∷ x ∷ y ∷ more) ≡ None)
      → ((word : List ℕ) → words text ≡ word ∷ [] → word ≡ []) → cond (list_any is_empty (first ∷ words text)) None (request (first ∷ words text)) ≡ None
  no-second text first longer empty = cases (words text) (words-some text) empty
    where
      cases : (last : List (List ℕ)) → (last ≡ [] → ⊥) → ((word : List ℕ) → last ≡ word ∷ [] → word ≡ [])
          → cond (list_any is_empty (first ∷ last)) None (request (first ∷ last)) ≡ None
      cases [] some h = absurd (some refl)
      cases (x ∷ []) some h =
          let none : x ≡ [] = h x refl in
          rw none (ap (λ (b : Bool). cond b None (request (first ∷ [] ∷ []))) (or-second (is_empty first)))
      cases (x ∷ y ∷ more) some h = asks-for-none (first ∷ x ∷ y ∷ more) (longer x y more)

  -- the same of a third
  pub no-third : (text first second : List ℕ) → ((x y : List ℕ) (more : List (List ℕ)) → request (first ∷ second ∷ x ∷ y ∷ more) ≡ None)
      → ((word : List ℕ) → words text ≡ word ∷ [] → word ≡ []) → cond (list_any is_empty (first ∷ second ∷ words text)) None (request (first ∷ second ∷ words text)) ≡ None
  no-third text first second longer empty = cases (words text) (words-some text) empty
    where
      cases : (last : List (List ℕ)) → (last ≡ [] → ⊥) → ((word : List ℕ) → last ≡ word ∷ [] → word ≡ [])
          → cond (list_any is_empty (first ∷ second ∷ last)) None (request (first ∷ second ∷ last)) ≡ None
      cases [] some h = absurd (some refl)
      cases (x ∷ []) some h =
          let none : x ≡ [] = h x refl in
          rw none (ap (λ (b : Bool). cond b None (request (first ∷ second ∷ [] ∷ []))) (or-last (is_empty first) (is_empty second)))
      cases (x ∷ y ∷ more) some h = asks-for-none (first ∷ second ∷ x ∷ y ∷ more) (longer x y more)
