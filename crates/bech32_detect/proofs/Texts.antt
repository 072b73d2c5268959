-- Accepted texts of one human-readable part and one length, where four errors are detected.
use Rattle.std.specs.Prelude.{Bool, IfOk, IsTrue, false, true, ◌↔◌}
use Rattle.std.proofs.Common.{Result, Ok, Err, ◌≡◌, ◌≢◌, ◌⊎◌, ◌+◌, ◌<◌, ◌/◌, ◌++◌, ℕ, suc, List, [], ◌∷◌, map, length, length-append, reverse, inl, inr, sym, ap, subst, ◌∙◌, arith}
use Rattle.std.proofs.lemmas.Bool.Decides.{eqb_tells}
use Rattle.std.proofs.lemmas.List.{length-map, length-reverse, reverse-reverse}
use Rattle.std.specs.Char.{to_ascii_lowercase}
use Rattle.bech32_gf.specs.Fe32 as fe32
use Rattle.bech32_gf.specs.Fe32.{element_of, elements_of}
use Rattle.bech32_gf.specs.laws.Fe32Laws.{is_field}
use Rattle.bech32_gf.specs.declared.gf32.Fe32.{Fe32}
use Rattle.bech32_poly.specs.Polynomial.{appended}
use Rattle.bech32_poly.specs.Remainder.{IsRemainder}
use Rattle.bech32_poly.proofs.Appended.{appended-append, appended-reverse}
use Rattle.bech32_hrp.specs.Hrp.{lowered}
use Rattle.bech32_checksum.specs.Code.{Code}
use Rattle.bech32_checksum.specs.TextPolynomial.{hrp_elements, text_polynomial}
use Rattle.bech32_bch.specs.Distance.{places_that_differ}
use Rattle.bech32_bch.proofs.Distance.{Tells, places_that_differ-reverse}
use Rattle.bech32_decode.specs.Acceptance.{IsAccepted}
use Rattle.bech32_detect.specs.Distance.{AreSameOrFar, same_element}
use Rattle.bech32_bch.specs.Detection.{DetectsFour}
use Rattle.bech32_detect.specs.Texts.{AreTextsFar}
use Rattle.bech32_detect.proofs.Apart.{detected}

same_element-tells : Tells same_element
same_element-tells x y = step (eqb_tells x.value y.value)
  where
    step : ((same_element x y ≡ true) × (x.value ≡ y.value)) ⊎ ((same_element x y ≡ false) × (x.value ≢ y.value)) → ((same_element x y ≡ true) × (x ≡ y)) ⊎ ((same_element x y ≡ false) × (x ≢ y))
    step (inl h) = inl (h.0, fe32.path x y h.1)
    step (inr h) = inr (h.0, λ e. h.1 (ap (λ (z : Fe32). z.value) e))

-- the coefficients of a text above those of its data part
abbrev pub above_data : List ℕ → List Fe32
above_data hrp = appended (fe32.one ∷ []) (hrp_elements hrp)

pub text_polynomial-reverse : (hrp : List ℕ) (elements : List Fe32) → text_polynomial hrp elements ≡ reverse elements ++ above_data hrp
text_polynomial-reverse hrp elements = appended-append (fe32.one ∷ []) (hrp_elements hrp) elements ∙ appended-reverse (above_data hrp) elements

pub above_data-lowered : (hrp other : List ℕ) → lowered other ≡ lowered hrp → above_data other ≡ above_data hrp
above_data-lowered hrp other e =
    ap (λ (low : List ℕ). appended (fe32.one ∷ []) (map (λ b. fe32.element (b / 32)) low ++ (fe32.zero ∷ map fe32.element low))) e

-- how many elements an accepted text has
elements_count : (code : Code) (text hrp data_part : List ℕ) → IsAccepted code text hrp data_part → length text ≡ length (lowered hrp) + suc (length (elements_of data_part))
elements_count code text hrp data_part is =
    omega (arith, ap (λ (u : List ℕ). length u) is.grammar.split, length-append hrp (49 ∷ data_part), length-map hrp to_ascii_lowercase, length-map data_part element_of)

pub texts_far : (code : Code) (n : ℕ) → DetectsFour fe32.ops code.generator n → AreTextsFar code n 4
texts_far code n detects text hrp data_part other other_hrp other_data is other_is same_hrp same_length short = step
    (detected is_field same_element same_element-tells code.generator (reverse xs) (reverse ys) (above_data hrp) code.target n detects
    (length-reverse xs ∙ sizes ∙ sym (length-reverse ys)) (omega (arith, length-reverse xs, length-map data_part element_of, short))
    (subst (λ p. IsRemainder fe32.ops code.generator p code.target) (text_polynomial-reverse hrp xs) is.has_target)
    (subst (λ p. IsRemainder fe32.ops code.generator p code.target) (text_polynomial-reverse other_hrp ys ∙ ap (λ u. reverse ys ++ u) (above_data-lowered hrp other_hrp same_hrp)) other_is.has_target))
  where
    xs : List Fe32
    xs = elements_of data_part

    ys : List Fe32
    ys = elements_of other_data

    sizes : length xs ≡ length ys
    sizes = omega (arith, elements_count code text hrp data_part is, elements_count code other other_hrp other_data other_is, same_length, ap (λ (u : List ℕ). length u) same_hrp)

    step : (reverse xs ≡ reverse ys) ⊎ (4 < places_that_differ same_element (reverse xs) (reverse ys)) → AreSameOrFar 4 xs ys
    step (inl e) = inl (sym (reverse-reverse xs) ∙ ap reverse e ∙ reverse-reverse ys)
    step (inr h) = inr (omega (arith, h, places_that_differ-reverse same_element xs ys sizes))

-- what is answered of errors says this of texts
pub if_texts : {E : Type 0} (code : Code) (n : ℕ) (r : Result Bool E) → IfOk r (λ answer. IsTrue answer ↔ DetectsFour fe32.ops code.generator n) → IfOk r (λ answer. IsTrue answer → AreTextsFar code n 4)
if_texts code n (Ok answer) h = λ e. texts_far code n (h.0 e)
if_texts code n (Err e) h = tt
