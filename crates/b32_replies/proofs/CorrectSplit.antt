-- Lines of `correct`.
use Rattle.std.specs.List.{list_any}
use Rattle.std.proofs.Common.{◌≡◌, ℕ, Bool, true, false, cond, List, [], ◌∷◌, refl, ap, ◌∙◌, None}
use Rattle.line_program.specs.Words.{words, is_empty}
use Rattle.b32_replies.specs.Request.{correct_arguments, correct_request}
use Rattle.line_program.proofs.NoRequest.{or-last}
use Rattle.line_program.proofs.Split.{words-some}

none_either_way : (b : Bool) (arguments : List (List ℕ)) → correct_request arguments ≡ None → cond b None (correct_request arguments) ≡ None
none_either_way true arguments e = refl
none_either_way false arguments e = e

-- a third argument that is no single word, or an empty one
pub no-locations : (arguments locations checksum text : List ℕ) → words arguments ≡ checksum ∷ text ∷ words locations
    → ((word : List ℕ) → words locations ≡ word ∷ [] → word ≡ []) → correct_arguments (words arguments) ≡ None
no-locations arguments locations checksum text e empty = ap correct_arguments e ∙ cases (words locations) (words-some locations) empty
  where
    cases : (last : List (List ℕ)) → (last ≡ [] → ⊥) → ((word : List ℕ) → last ≡ word ∷ [] → word ≡ []) → correct_arguments (checksum ∷ text ∷ last) ≡ None
    cases [] some h = absurd (some refl)
    cases (x ∷ []) some h =
        let none : x ≡ [] = h x refl in
        let any : list_any is_empty (checksum ∷ text ∷ [] ∷ []) ≡ true = or-last (is_empty checksum) (is_empty text) in
        rw none (ap (λ (b : Bool). cond b None (correct_request (checksum ∷ text ∷ [] ∷ []))) any)
    cases (x ∷ y ∷ more) some h = none_either_way (list_any is_empty (checksum ∷ text ∷ x ∷ y ∷ more)) (checksum ∷ text ∷ x ∷ y ∷ more) refl
