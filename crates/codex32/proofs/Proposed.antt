-- From the parts of a damaged text to the nearest text.
use Rattle.std.specs.Prelude.{MatchOption}
use Rattle.std.proofs.Common.{◌≡◌, ◌++◌, ℕ, Bool, List, ◌∷◌, Option, None, Some, subst, sym}
use Rattle.bech32_gf.specs.Fe32.{elements_of, ops}
use Rattle.bech32_gf.specs.declared.gf32.Fe32.{Fe32}
use Rattle.bech32_checksum.specs.Code.{Code}
use Rattle.bech32_checksum.specs.Encoded.{spelled}
use Rattle.bech32_correction.specs.MendedElements.{mended}
use Rattle.bech32_decode.specs.Text.{IsText}
use Rattle.codex32.specs.Damaged.{AreParts, read_data, read_text, unreadable}
use Rattle.codex32.specs.Strings.{frame_refusal_by}
use Rattle.codex32.specs.Nearest.{AreAdditions, AreFramedParts, IsMendedAt, IsNearestAnswerBy, IsNearestBy, IsUnlisted}
use Rattle.codex32.proofs.Near.{nearest-from_listed, none-from_unlisted}
use Rattle.codex32.proofs.Separated.{read_text-split}

-- nothing is wrong with the text as it is read but perhaps its checksum
pub framed-from_parts : (may : ℕ → Bool) (text front damaged : List ℕ) → AreParts text front damaged → frame_refusal_by may (read_text text) ≡ None → AreFramedParts may front (read_data damaged)
framed-from_parts may text front damaged parts fine =
    let same = read_text-split text front damaged parts.cut in
    (subst (λ (t : List ℕ). frame_refusal_by may t ≡ None) same fine, subst (λ (t : List ℕ). IsText t front (read_data damaged)) same parts.grammar)

-- what was read, and the locations of the unreadable characters
module _ (code : Code) (text front damaged : List ℕ) (parts : AreParts text front damaged) where
  read_is : front ++ (49 ∷ read_data damaged) ≡ read_text text
  read_is = sym (read_text-split text front damaged parts.cut)

  nearest_of : (answer : List ℕ) (listing : List (ℕ × Fe32)) → AreAdditions code (front ++ (49 ∷ read_data damaged)) (unreadable damaged) listing
      → answer ≡ spelled front (mended ops listing (elements_of (read_data damaged))) → IsNearestBy code text answer
  nearest_of answer listing listed spelling =
      subst (IsNearestBy code text) (sym spelling)
      (nearest-from_listed code text front damaged parts listing (subst (λ (r : List ℕ). AreAdditions code r (unreadable damaged) listing) read_is listed))

  none_of : IsUnlisted code (front ++ (49 ∷ read_data damaged)) (unreadable damaged) → (nearest : List ℕ) → IsNearestBy code text nearest → ⊥
  none_of unlisted = none-from_unlisted code text front damaged parts (subst (λ (r : List ℕ). IsUnlisted code r (unreadable damaged)) read_is unlisted)

  answer_from : {S : Type 0} (bytes : S → List ℕ) (found : Option S)
      → MatchOption found (IsUnlisted code (front ++ (49 ∷ read_data damaged)) (unreadable damaged)) (λ s. IsMendedAt code front (read_data damaged) (unreadable damaged) (bytes s))
      → IsNearestAnswerBy code bytes text found
  answer_from bytes None h = none_of h
  answer_from bytes (Some s) h = nearest_of (bytes s) h.listing h.listed h.spelling

-- as they are named where they are found
pub answer_from_found : (code : Code) (text front damaged part read places : List ℕ) → AreParts text front damaged → part ≡ front → read ≡ read_data damaged → places ≡ unreadable damaged
    → {S : Type 0} (bytes : S → List ℕ) (found : Option S)
    → MatchOption found (IsUnlisted code (part ++ (49 ∷ read)) places) (λ s. IsMendedAt code part read places (bytes s)) → IsNearestAnswerBy code bytes text found
answer_from_found code text front damaged part read places parts p r at bytes found h =
    answer_from code text front damaged parts bytes found
    (subst (λ (us : List ℕ). MatchOption found (IsUnlisted code (front ++ (49 ∷ read_data damaged)) us) (λ s. IsMendedAt code front (read_data damaged) us (bytes s))) at
    (subst (λ (d : List ℕ). MatchOption found (IsUnlisted code (front ++ (49 ∷ d)) places) (λ s. IsMendedAt code front d places (bytes s))) r
    (subst (λ (f : List ℕ). MatchOption found (IsUnlisted code (f ++ (49 ∷ read)) places) (λ s. IsMendedAt code f read places (bytes s))) p h)))
