-- What a checksum accepts, or refuses for its residue alone, is refused for nothing else.
use Rattle.std.proofs.Common.{◌≡◌, ◌<◌, ◌≤◌, ℕ, true, List, [], ◌∷◌, Err, IsOk, length, leb, leb-true, sym, ap, subst, ◌∙◌, arith}
use Rattle.std.proofs.lemmas.Bool.{and_parts}
use Rattle.std.proofs.lemmas.Str.{IsUtf8-append, IsUtf8-from_ascii}
use Rattle.std.proofs.lemmas.Str.Ascii.{IsAscii-nil, IsAscii-cons}
use Rattle.std.specs.List.{list_all}
use Rattle.std.specs.Str.{IsAscii, IsUtf8}
use Rattle.bech32_gf.specs.Fe32.{elements_of, ops}
use Rattle.bech32_gf.specs.declared.gf32.Fe32.{Fe32}
use Rattle.bech32_poly.specs.Polynomial.{IsSamePolynomial, add, coefficient}
use Rattle.bech32_poly.specs.Remainder.{IsRemainder}
use Rattle.bech32_checksum.specs.Code.{Code, bech32, bech32m}
use Rattle.bech32_checksum.specs.TextPolynomial.{text_polynomial}
use Rattle.bech32_hrp.specs.Hrp.{is_graphic}
use Rattle.bech32_refusals.specs.declared.error.CheckedHrpstringError.{CheckedHrpstringError}
use Rattle.bech32_refusals.specs.declared.error.CheckedHrpstringError.TheVariants.{Parse, Checksum}
use Rattle.bech32_refusals.specs.declared.error.ChecksumError.TheVariants.{CodeLength, InvalidLength, InvalidResidue}
use Rattle.bech32_decode.specs.Acceptance.{Accepts}
use Rattle.bech32_decode.specs.Checked.{IsCheckedRefusal}
use Rattle.bech32_decode.specs.Text.{IsInGrammar}
use Rattle.bech32_decode.specs.declared.checked.CheckedHrpstring.{CheckedHrpstring}
use Rattle.bech32_decode.proofs.Decoding.{accepted-from_checked, one_remainder, valid-from_accepts}
use Rattle.bech32_decode.proofs.Grammar.{not_in_grammar, only-from_IsText}
use Rattle.bech32_decode.proofs.Letters.{IsAscii-from_data}
use Rattle.bech32_correction.specs.Mistyped.{HasResidue, IsRefusal, IsRefusedFor}

-- ---- a text of the grammar is ASCII

ascii-from_graphic : (b : ℕ) → is_graphic b ≡ true → b < 128
ascii-from_graphic b h = let parts = and_parts (leb 33 b) (leb b 126) h in omega (arith, leb-true b 126 parts.1)

IsAscii-from_graphic : (bytes : List ℕ) → list_all is_graphic bytes ≡ true → IsAscii bytes
IsAscii-from_graphic [] h = IsAscii-nil
IsAscii-from_graphic (b ∷ bs) h =
    let parts = and_parts (is_graphic b) (list_all is_graphic bs) h in
    IsAscii-cons b bs (ascii-from_graphic b parts.0) (IsAscii-from_graphic bs parts.1)

pub IsUtf8-from_grammar : (text : List ℕ) → IsInGrammar text → IsUtf8 text
IsUtf8-from_grammar text (hrp, data_part, is) =
    subst IsUtf8 (sym is.split)
    (IsUtf8-append hrp (49 ∷ data_part) (IsUtf8-from_ascii hrp (IsAscii-from_graphic hrp is.is_hrp.graphic))
    (IsUtf8-from_ascii (49 ∷ data_part) (IsAscii-cons 49 data_part (omega arith) (IsAscii-from_data data_part is.data_bytes))))

pub grammar-from_accepts : (code : Code) (text : List ℕ) → Accepts code text → IsInGrammar text
grammar-from_accepts code text a = (a.0, a.1, a.2.grammar)

-- ---- one checksum, one text

module _ (code : Code) (text : List ℕ) where
  pub accepted_unrefused : (e : CheckedHrpstringError) → Accepts code text → IsCheckedRefusal code text e → ⊥
  accepted_unrefused e a h =
      let ok : IsOk {T = CheckedHrpstring} (Err e) = (accepted-from_checked code text (IsUtf8-from_grammar text (grammar-from_accepts code text a)) (Err e) h).1 a in absurd (cc)

  -- there is one residue
  pub one_residue : (h d : List ℕ) (residue : List Fe32) (h' d' : List ℕ) (residue' : List Fe32) → HasResidue code text h d residue → HasResidue code text h' d' residue'
      → (d ≡ d') × IsSamePolynomial ops residue residue'
  one_residue h d residue h' d' residue' a b =
      let same = only-from_IsText text h' d' b.grammar h d a.grammar.split a.grammar.data_bytes in
      let left : IsRemainder ops code.generator (text_polynomial h' (elements_of d')) a.remainder =
      subst (λ (x : List ℕ). IsRemainder ops code.generator (text_polynomial x (elements_of d')) a.remainder) same.0
      (subst (λ (x : List ℕ). IsRemainder ops code.generator (text_polynomial h (elements_of x)) a.remainder) same.1 a.is_remainder) in
      let one : a.remainder ≡ b.remainder = one_remainder code.generator (text_polynomial h' (elements_of d')) a.remainder b.remainder left b.is_remainder in
      (same.1, λ i. a.residue_is i ∙ ap (λ (r : List Fe32). coefficient ops (add ops r code.target) i) one ∙ sym (b.residue_is i))

  pub not_both : (h d : List ℕ) (residue : List Fe32) → Accepts code text → IsRefusedFor code text h d residue → ⊥
  not_both h d residue a r =
      r.not_target (one_remainder code.generator (text_polynomial h (elements_of d)) r.read.remainder code.target r.read.is_remainder (valid-from_accepts code text h d r.read.grammar a).2)

  pub residue_unrefused : (h d : List ℕ) (residue : List Fe32) (e : CheckedHrpstringError) → HasResidue code text h d residue → IsRefusal code text e → ⊥
  residue_unrefused h d residue (Parse e) a r = let g : IsInGrammar text = (h, d, a.grammar) in not_in_grammar text e (IsUtf8-from_grammar text g) r.0 g
  residue_unrefused h d residue (Checksum (CodeLength e)) a r =
      let over : code.code_length < length text = r.0.refusal.0 in
      let fits : length text ≤ code.code_length = a.text_length in
      absurd (omega arith)
  residue_unrefused h d residue (Checksum InvalidLength) a r =
      let same = only-from_IsText text r.0.hrp r.0.data_part r.0.grammar h d a.grammar.split a.grammar.data_bytes in
      let one : length d ≡ length r.0.data_part = ap length same.1 in
      let short : length r.0.data_part < length code.generator = r.0.refusal.1 in
      let room : length code.generator ≤ length d = a.data_length in
      absurd (omega arith)
  residue_unrefused h d residue (Checksum (InvalidResidue e)) a r = absurd (let k = r.1 in cc)

-- Bech32 and Bech32m have other targets
pub not_by_both : (text : List ℕ) → Accepts bech32m text → Accepts bech32 text → ⊥
not_by_both text a b =
    let (hrp, data_part, is) = a in
    let one : bech32m.target ≡ bech32.target =
    one_remainder bech32.generator (text_polynomial hrp (elements_of data_part)) bech32m.target bech32.target is.has_target (valid-from_accepts bech32 text hrp data_part is.grammar b).2 in
    absurd (omega (arith, ap (λ (t : List Fe32). (coefficient ops t 0).value) one))
