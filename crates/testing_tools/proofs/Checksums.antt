-- The checksum of elements is the remainder behind the target's coefficients.
use Rattle.std.proofs.Common.{◌≡◌, ◌∙◌, ◌++◌, ℕ, List, [], ◌∷◌, length, reverse, sym, ap, subst, append_assoc, refl}
use Rattle.std.proofs.lemmas.List.{length-reverse}
use Rattle.bech32_gf.specs.Fe32 as fe32
use Rattle.bech32_gf.specs.laws.Fe32Laws.{is_field}
use Rattle.bech32_gf.specs.declared.gf32.Fe32.{Fe32}
use Rattle.bech32_poly.specs.Polynomial.{appended}
use Rattle.bech32_poly.specs.Remainder.{IsRemainder}
use Rattle.bech32_poly.proofs.Appended.{appended-append, checksum_of_target}
use Rattle.bech32_checksum.specs.Code.{Code}
use Rattle.bech32_checksum.specs.TextPolynomial.{IsChecksumOf, hrp_elements, text_polynomial}
use Rattle.testing_tools.specs.PlainChecksum.{code_of_plain}
use Rattle.testing_tools.specs.declared.plain.checksum.PlainChecksum.{PlainChecksum}
use Rattle.testing_tools.specs.declared.plain.checksum.PlainChecksum.TheVariants.{Bech32, Bech32m}

length-target : (k : PlainChecksum) → length (code_of_plain k).target ≡ length (code_of_plain k).generator
length-target Bech32 = refl
length-target Bech32m = refl

-- the polynomial without its last elements
front_of : List ℕ → List Fe32 → List Fe32
front_of hrp elements = appended (fe32.one ∷ []) (hrp_elements hrp ++ elements)

polynomial-parts : (hrp : List ℕ) (elements last : List Fe32) → appended (front_of hrp elements) last ≡ text_polynomial hrp (elements ++ last)
unfolding front_of
polynomial-parts hrp elements last =
    sym (appended-append (fe32.one ∷ []) (hrp_elements hrp ++ elements) last) ∙ ap (appended (fe32.one ∷ [])) (append_assoc (hrp_elements hrp) elements last)

pub is_checksum : (k : PlainChecksum) (hrp : List ℕ) (elements rest : List Fe32)
    → IsRemainder fe32.ops (code_of_plain k).generator (text_polynomial hrp (elements ++ reverse (code_of_plain k).target)) rest
    → IsChecksumOf (code_of_plain k) hrp elements (reverse rest)
is_checksum k hrp elements rest h =
    let code : Code = code_of_plain k in
    let front : List Fe32 = front_of hrp elements in
    let held : IsRemainder fe32.ops code.generator (appended front (reverse code.target)) rest =
    subst (λ p. IsRemainder fe32.ops code.generator p rest) (sym (polynomial-parts hrp elements (reverse code.target))) h in
    record {
      size = length-reverse rest ∙ h.short;
      has_target = subst (λ p. IsRemainder fe32.ops code.generator p code.target) (polynomial-parts hrp elements (reverse rest))
          (checksum_of_target is_field code.generator front code.target rest (λ x. refl) (length-target k) held);
    }
