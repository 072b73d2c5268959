-- Lines that ask for nothing.
use Rattle.std.proofs.Common.{◌≡◌, ℕ, List, [], ◌∷◌, refl, None, codes}
use Rattle.line_program.specs.Words.{words, is_empty}
use Rattle.line_program.proofs.NoRequest.{asks-none, asks-none-empty, or-last}
use Rattle.b32_replies.specs.Request.{checksum_of_word, encode_request, request_of_words, request_of}

-- `encode` with no checksum
no-checksum : (checksum hrp : List ℕ) (more : List (List ℕ)) → checksum_of_word checksum ≡ None → encode_request (checksum ∷ hrp ∷ more) ≡ None
no-checksum checksum hrp [] e = refl
no-checksum checksum hrp (hex ∷ []) e = rw e
no-checksum checksum hrp (hex ∷ x ∷ more) e = refl

-- a line of `encode` with no checksum
pub encode-no-checksum : (line checksum hrp : List ℕ) (more : List (List ℕ)) → words line ≡ codes "encode" ∷ checksum ∷ hrp ∷ more → checksum_of_word checksum ≡ None → request_of line ≡ None
encode-no-checksum line checksum hrp more e none = asks-none request_of_words line _ e (no-checksum checksum hrp more none)

-- a line of `encode` with no last word, or an empty one
pub encode-no-hex : (line checksum hrp : List ℕ) (last : List (List ℕ)) → words line ≡ codes "encode" ∷ checksum ∷ hrp ∷ last → ((word : List ℕ) → last ≡ word ∷ [] → word ≡ [])
    → request_of line ≡ None
encode-no-hex line checksum hrp [] e empty = asks-none request_of_words line _ e refl
encode-no-hex line checksum hrp (x ∷ y ∷ more) e empty = asks-none request_of_words line _ e refl
encode-no-hex line checksum hrp (x ∷ []) e empty =
    let none : x ≡ [] = empty x refl in
    asks-none-empty request_of_words line (rw (e, none) (or-last (is_empty checksum) (is_empty hrp)))

-- a line of `decode` with no last word, or an empty one
pub decode-no-text : (line : List ℕ) (last : List (List ℕ)) → words line ≡ codes "decode" ∷ last → ((word : List ℕ) → last ≡ word ∷ [] → word ≡ []) → request_of line ≡ None
decode-no-text line [] e empty = asks-none request_of_words line _ e refl
decode-no-text line (x ∷ y ∷ more) e empty = asks-none request_of_words line _ e refl
decode-no-text line (x ∷ []) e empty = let none : x ≡ [] = empty x refl in asks-none-empty request_of_words line (rw (e, none) refl)
