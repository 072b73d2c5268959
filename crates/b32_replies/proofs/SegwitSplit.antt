-- Lines of `segwit-encode` and `segwit-decode` with no last word, or an empty one.
use Rattle.std.proofs.Common.{◌≡◌, ℕ, List, [], ◌∷◌, refl, None, codes}
use Rattle.line_program.specs.Words.{words, is_empty}
use Rattle.b32_replies.specs.Request.{request_of, request_of_words}
use Rattle.line_program.proofs.NoRequest.{asks-none, asks-none-empty, or-last}

pub segwit-encode-no-hex : (line hrp version : List ℕ) (last : List (List ℕ)) → words line ≡ codes "segwit-encode" ∷ hrp ∷ version ∷ last
    → ((word : List ℕ) → last ≡ word ∷ [] → word ≡ []) → request_of line ≡ None
segwit-encode-no-hex line hrp version [] e empty = asks-none request_of_words line _ e refl
segwit-encode-no-hex line hrp version (x ∷ y ∷ more) e empty = asks-none request_of_words line _ e refl
segwit-encode-no-hex line hrp version (x ∷ []) e empty =
    let none : x ≡ [] = empty x refl in
    asks-none-empty request_of_words line (rw (e, none) (or-last (is_empty hrp) (is_empty version)))

-- with no second word, or an empty one
pub segwit-encode-no-version : (line : List ℕ) (last : List (List ℕ)) → words line ≡ codes "segwit-encode" ∷ last
    → ((first second : List ℕ) (rest : List (List ℕ)) → last ≡ first ∷ second ∷ rest → first ≡ []) → request_of line ≡ None
segwit-encode-no-version line [] e empty = asks-none request_of_words line _ e refl
segwit-encode-no-version line (x ∷ []) e empty = asks-none request_of_words line _ e refl
segwit-encode-no-version line (x ∷ y ∷ more) e empty = let none : x ≡ [] = empty x y more refl in asks-none-empty request_of_words line (rw (e, none) refl)

pub segwit-decode-no-text : (line : List ℕ) (last : List (List ℕ)) → words line ≡ codes "segwit-decode" ∷ last → ((word : List ℕ) → last ≡ word ∷ [] → word ≡ [])
    → request_of line ≡ None
segwit-decode-no-text line [] e empty = asks-none request_of_words line _ e refl
segwit-decode-no-text line (x ∷ y ∷ more) e empty = asks-none request_of_words line _ e refl
segwit-decode-no-text line (x ∷ []) e empty = let none : x ≡ [] = empty x refl in asks-none-empty request_of_words line (rw (e, none) refl)
