-- A human-readable part and elements have one checksum and one text.
use Rattle.std.proofs.Common.{◌≡◌, ℕ, Bool, List, ◌++◌, ◌∙◌, length, ap, subst, refl}
use Rattle.bech32_gf.specs.Fe32 as fe32
use Rattle.bech32_gf.specs.laws.Fe32Laws.{is_field}
use Rattle.bech32_gf.specs.declared.gf32.Fe32.{Fe32}
use Rattle.bech32_poly.specs.Polynomial.{appended}
use Rattle.bech32_poly.specs.Remainder.{IsRemainder}
use Rattle.bech32_poly.proofs.Appended.{checksum_unique}
use Rattle.bech32_checksum.specs.Code.{Code}
use Rattle.bech32_checksum.specs.Encoded.{spelled, IsEncodedText}
use Rattle.bech32_checksum.specs.TextPolynomial.{text_polynomial, IsChecksumOf}
use Rattle.bech32_encode.specs.Cased.{in_case, IsTextInCase}
use Rattle.bech32_encode.specs.ChecksumElements.{checksum_of}
use Rattle.bech32_encode.specs.ExactlyOne.{ExactlyOne}
use Rattle.bech32_encode.proofs.ChecksumEnds.{text_polynomial-append, checksum_of-hrp}

module _ (code : Code) (size : length code.target ≡ length code.generator) (hrp : List ℕ) (elements : List Fe32) where
  abbrev sum : List Fe32
  sum = checksum_of code (text_polynomial hrp elements)

  leaves : (checksum : List Fe32) → IsChecksumOf code hrp elements checksum → IsRemainder fe32.ops code.generator (appended (text_polynomial hrp elements) checksum) code.target
  leaves checksum is = subst (λ (p : List Fe32). IsRemainder fe32.ops code.generator p code.target) (text_polynomial-append hrp elements checksum) is.has_target

  same_checksum : (checksum : List Fe32) → IsChecksumOf code hrp elements checksum → checksum ≡ sum
  same_checksum checksum is =
      let own : IsChecksumOf code hrp elements sum = checksum_of-hrp code size hrp elements in
      checksum_unique is_field code.generator (text_polynomial hrp elements) checksum sum code.target is.size own.size (leaves checksum is) (leaves sum own)

  pub one_checksum : ExactlyOne (IsChecksumOf code hrp elements)
  one_checksum = (sum, checksum_of-hrp code size hrp elements, same_checksum)

  encoded : IsEncodedText code hrp elements (spelled hrp (elements ++ sum))
  encoded = record { checksum = sum; is_checksum = checksum_of-hrp code size hrp elements; spelling = refl }

  same_text : (text : List ℕ) → IsEncodedText code hrp elements text → text ≡ spelled hrp (elements ++ sum)
  same_text text is = is.spelling ∙ ap (λ (c : List Fe32). spelled hrp (elements ++ c)) (same_checksum is.checksum is.is_checksum)

  pub one_text : ExactlyOne (IsEncodedText code hrp elements)
  one_text = (spelled hrp (elements ++ sum), encoded, same_text)

  pub one_in_case : (upper : Bool) → ExactlyOne (IsTextInCase upper code hrp elements)
  one_in_case upper = (
    in_case upper (spelled hrp (elements ++ sum)),
    (spelled hrp (elements ++ sum), encoded, refl),
    λ text (lower, is, e). e ∙ ap (in_case upper) (same_text lower is),
  )
