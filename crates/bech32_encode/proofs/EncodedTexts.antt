-- What stands behind a human-readable part, as a text and as elements.
use Rattle.std.proofs.Common.{◌≡◌, ◌<◌, ◌+◌, ℕ, List, [], ◌∷◌, ◌++◌, map, drop, length, ap, ◌∙◌, append_assoc, arith}
use Rattle.std.proofs.lemmas.List.{drop_all, length-append, length-map}
use Rattle.std.specs.Char.{to_ascii_lowercase}
use Rattle.bech32_gf.specs.declared.gf32.Fe32.{Fe32}
use Rattle.bech32_checksum.specs.Code.{Code}
use Rattle.bech32_checksum.specs.Encoded.{char_of_element, spelled, IsEncodedText, IsEncodedElements}
use Rattle.bech32_encode.specs.TextFrom.{text_front, text_from}
use Rattle.bech32_hrp.specs.Hrp.{lowered}
use Rattle.bech32_checksum.specs.TextPolynomial.{hrp_elements, IsChecksumOf, EndsInChecksum}

pub length-front : (hrp : List ℕ) → length (text_front hrp) ≡ length hrp + 1
length-front hrp =
    length-append (lowered hrp) (49 ∷ []) ∙ ap (λ (n : ℕ). n + 1) (length-map hrp to_ascii_lowercase)

-- nothing is left of the human-readable part and the separator past them
pub front-past : (hrp : List ℕ) (place : ℕ) → length hrp < place → drop place (text_front hrp) ≡ []
front-past hrp place h =
    drop_all place (text_front hrp) (let e : length (text_front hrp) ≡ length hrp + 1 = length-front hrp in omega arith)

-- the front and the characters are the text
front-spelled : (hrp : List ℕ) (xs : List Fe32) → text_front hrp ++ map char_of_element xs ≡ spelled hrp xs
front-spelled hrp xs = append_assoc (lowered hrp) (49 ∷ []) (map char_of_element xs)

module _ (code : Code) (hrp : List ℕ) (xs given : List Fe32) (ends : EndsInChecksum (IsChecksumOf code hrp) xs given) where
  pub encoded_text : (bytes : List ℕ) → bytes ≡ hrp → IsEncodedText code hrp xs (text_from bytes 0 given)
  encoded_text bytes e = record {
    checksum = ends.checksum;
    is_checksum = ends.is_checksum;
    spelling = ap (λ b. text_front b ++ map char_of_element given) e
        ∙ ap (λ l. text_front hrp ++ map char_of_element l) ends.given_is
        ∙ front-spelled hrp (xs ++ ends.checksum);
  }

  pub encoded_elements : (front : List Fe32) → front ≡ hrp_elements hrp → IsEncodedElements code hrp xs (front ++ given)
  encoded_elements front e = record {
    checksum = ends.checksum;
    is_checksum = ends.is_checksum;
    given_is = ap (λ l. l ++ given) e ∙ ap (λ l. hrp_elements hrp ++ l) ends.given_is;
  }
