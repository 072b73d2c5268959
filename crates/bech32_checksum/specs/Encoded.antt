-- The text of a human-readable part and elements (BIP-173, Bech32).
use Rattle.std.specs.Prelude.{◌≡◌, ℕ, List, ◌∷◌, ◌++◌, map}
use Rattle.bech32_gf.specs.Alphabet.{char_of}
use Rattle.bech32_gf.specs.declared.gf32.Fe32.{Fe32}
use Rattle.bech32_checksum.specs.Code.{Code}
use Rattle.bech32_hrp.specs.Hrp.{lowered}
use Rattle.bech32_checksum.specs.TextPolynomial.{hrp_elements, IsChecksumOf}

-- the lower-case character of an element
abbrev pub char_of_element : Fe32 → ℕ
char_of_element x = char_of x.value

-- the human-readable part in lower case, the separator `1`, and the characters of the elements
abbrev pub spelled : List ℕ → List Fe32 → List ℕ
spelled hrp elements = lowered hrp ++ (49 ∷ map char_of_element elements)

-- the text of the elements and their checksum
pub record IsEncodedText (code : Code) (hrp : List ℕ)
    (elements : List Fe32) (text : List ℕ) : Type 0 where
  pub checksum : List Fe32
  pub is_checksum : IsChecksumOf code hrp elements checksum
  pub spelling : text ≡ spelled hrp (elements ++ checksum)

-- the elements of the human-readable part, the elements and their checksum
pub record IsEncodedElements (code : Code) (hrp : List ℕ)
    (elements given : List Fe32) : Type 0 where
  pub checksum : List Fe32
  pub is_checksum : IsChecksumOf code hrp elements checksum
  pub given_is : given ≡ hrp_elements hrp ++ (elements ++ checksum)
