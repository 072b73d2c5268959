-- What headers are made of, and the words for it (BIP-93, codex32 and Unshared Secret).
use Rattle.std.specs.Prelude.{◌+◌, ◌==◌, ◌&&◌, not, if◌then◌else◌, ℕ, Bool, false}
use Rattle.std.specs.Prelude.{List, [], ◌∷◌, ◌++◌, length, max, Option, None, Some}
use Rattle.std.specs.Char.{to_ascii_lowercase}
use Rattle.bech32_gf.specs.Alphabet.{is_data, is_of_alphabet}
use Rattle.bech32_gf.specs.Fe32.{element, element_of}
use Rattle.bech32_gf.specs.declared.gf32.Fe32.{Fe32}
use Rattle.bech32_hrp.specs.Hrp.{first_of, is_mixed_case}
use Rattle.codex32.specs.Strings.{is_threshold}
use Rattle.codex32.specs.declared.error.HeaderError.{HeaderError}
use Rattle.codex32.specs.declared.error.HeaderError.TheVariants as refusals
use Rattle.codex32.specs.declared.identifier.Identifier.{Identifier}
use Rattle.codex32.specs.declared.threshold.Threshold.{Threshold}

-- the number of a threshold, 0 or 2 to 9
abbrev pub threshold_number : Threshold → ℕ
threshold_number t = t.number

-- its digit
abbrev pub threshold_word : Threshold → List ℕ
threshold_word t = (48 + t.number) ∷ []

-- how many strings give the others: the threshold, or one where that is 0
abbrev pub points_of : Threshold → ℕ
points_of t = max 1 t.number

-- the four elements of an identifier
abbrev pub identifier_elements : Identifier → List Fe32
identifier_elements i = i.elements

-- the index of the secret, `s`
abbrev pub secret_index : Fe32
secret_index = element 16

-- the first elements of a data part: those of the digit, the identifier and the share index
abbrev pub header_elements_of : Threshold → Identifier → Fe32 → List Fe32
header_elements_of t i x = element_of (48 + t.number) ∷ (i.elements ++ (x ∷ []))

-- whether a word is a threshold: one character that is one
abbrev pub is_threshold_word : List ℕ → Bool
is_threshold_word (c ∷ []) = is_threshold c
is_threshold_word _ = false

-- whether a word is an identifier: four characters of the alphabet in one case
abbrev pub is_identifier_word : List ℕ → Bool
is_identifier_word word = length word == 4 && (is_data word && not (is_mixed_case word))

-- whether a word is a share index: one character of the alphabet
abbrev pub is_share_index_word : List ℕ → Bool
is_share_index_word (c ∷ []) = is_of_alphabet c
is_share_index_word _ = false

-- the element of a word that is a share index
abbrev pub share_index_of_word : List ℕ → Fe32
share_index_of_word (c ∷ cs) = element_of c
share_index_of_word [] = element 0

abbrev pub threshold_word_fault : List ℕ → Option HeaderError
threshold_word_fault word = if is_threshold_word word then None else Some refusals.Threshold

abbrev pub identifier_word_fault : List ℕ → Option HeaderError
identifier_word_fault word = if is_identifier_word word then None else Some refusals.Identifier

abbrev pub share_index_word_fault : List ℕ → Option HeaderError
share_index_word_fault word = if is_share_index_word word then None else Some refusals.ShareIndex

-- the threshold is 0, and the share index is not `s`
abbrev pub unshared_fault : Threshold → Fe32 → Option HeaderError
unshared_fault t x =
    if t.number == 0 && not (x.value == 16) then Some refusals.Unshared else None

-- the same of words
abbrev pub unshared_word_fault : List ℕ → List ℕ → Option HeaderError
unshared_word_fault (t ∷ []) (x ∷ []) =
    if t == 48 && not (to_ascii_lowercase x == 115) then Some refusals.Unshared else None
unshared_word_fault _ _ = None

-- what is wrong with the words for a header, the first of: the threshold, the identifier, the share
-- index, that it is not `s` where the threshold is 0
abbrev pub header_word_fault : List ℕ → List ℕ → List ℕ → Option HeaderError
header_word_fault threshold identifier share_index =
    first_of (threshold_word_fault threshold)
    (first_of (identifier_word_fault identifier)
    (first_of (share_index_word_fault share_index) (unshared_word_fault threshold share_index)))
