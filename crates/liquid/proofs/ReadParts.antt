-- What is read of a text is the address that the text is.
use Rattle.std.proofs.Common.{◌≡◌, ◌≤◌, ◌-◌, ℕ, List, ◌∷◌, ◌++◌, ◌∙◌, length, length-drop, sym, ap, subst, arith, ⊎_elim}
use Rattle.std.proofs.lemmas.List.{length-map, length-take-le, map-append, take-append-drop}
use Rattle.bech32_gf.specs.Fe32.{element_of, elements_of, ops}
use Rattle.bech32_gf.specs.declared.gf32.Fe32.{Fe32}
use Rattle.bech32_poly.specs.Remainder.{IsRemainder}
use Rattle.bech32_bits.specs.Bits.{to_bytes, to_fes}
use Rattle.bech32_hrp.specs.Hrp.{lowered}
use Rattle.bech32_checksum.specs.Code.{Code}
use Rattle.bech32_checksum.specs.Encoded.{IsEncodedText, spelled}
use Rattle.bech32_checksum.specs.TextPolynomial.{text_polynomial}
use Rattle.bech32_decode.specs.BeforeChecksum.{IsBeforeChecksum}
use Rattle.bech32_decode.proofs.Padding.{to_fes-to_bytes}
use Rattle.bech32_decode.proofs.Spelling.{in_one_case, lower_text}
use Rattle.bech32_refusals.specs.SegwitRules.{IsProgramLength}
use Rattle.liquid.specs.Confidential.{IsConfidential, IsDecodedConfidential, IsKeyAndProgram}
use Rattle.liquid.specs.Parts.{confidential_key, confidential_part, confidential_payload, confidential_program, confidential_version}
use Rattle.liquid.specs.Read.{IsReadConfidential}
use Rattle.liquid.specs.declared.address.Address.{Address}
use Rattle.liquid.proofs.Spelling.{one_spelling}

-- the elements of a data part are those before its checksum, and those of the checksum
pub elements-before : (code : Code) (data_part characters : List ℕ) (b : IsBeforeChecksum code data_part characters)
    → elements_of data_part ≡ elements_of characters ++ elements_of b.checksum
elements-before code data_part characters b = ap elements_of b.data_part_is ∙ map-append element_of characters b.checksum

module _ (code : Code) (text : List ℕ) (a : Address) (h : IsReadConfidential code text a) where
  encoded : IsEncodedText code (confidential_part a) (confidential_version a ∷ to_fes (confidential_key a ++ confidential_program a)) (lowered text)
  encoded =
      let hrp = confidential_part a in
      let version = confidential_version a in
      let sum = elements_of h.before.checksum in
      let back : to_fes (confidential_key a ++ confidential_program a) ≡ h.payload =
      ap to_fes (take-append-drop 33 (confidential_payload a) ∙ h.bytes) ∙ to_fes-to_bytes h.payload h.lawful.padded in
      let all : elements_of h.data_part ≡ (version ∷ to_fes (confidential_key a ++ confidential_program a)) ++ sum =
      elements-before code h.data_part h.checked h.before
      ∙ ap (λ (l : List Fe32). l ++ sum) (h.elements ∙ ap (λ (l : List Fe32). version ∷ l) (sym back)) in
      record {
        checksum = sum;
        is_checksum = record {
          size = length-map h.before.checksum element_of ∙ h.before.size;
          has_target = subst (λ (l : List Fe32). IsRemainder ops code.generator (text_polynomial hrp l) code.target) all h.accepted.has_target;
        };
        spelling = lower_text text hrp h.data_part h.accepted.grammar ∙ ap (spelled hrp) all;
      }

  pub confidential-from_read : IsConfidential code (confidential_part a) (confidential_version a) (confidential_key a) (confidential_program a) text
  confidential-from_read =
      let bytes : length (confidential_payload a) ≡ length (to_bytes h.payload) = ap length h.bytes in
      let key : 33 ≤ length (to_bytes h.payload) = h.lawful.has_key in
      let rest : length (confidential_program a) ≡ length (to_bytes h.payload) - 33 = length-drop 33 (confidential_payload a) ∙ ap (λ (n : ℕ). n - 33) bytes in
      record {
        lower = lowered text;
        address = record {
          version_is = h.version_is;
          key_length = length-take-le 33 (confidential_payload a) (omega (arith, bytes, key));
          program_length = subst (IsProgramLength (confidential_version a)) (sym rest) h.lawful.program_length;
          encoded = encoded;
        };
        in_one_case = in_one_case text (confidential_part a) h.data_part h.accepted.grammar;
      }

  pub decoded-from_read : IsDecodedConfidential code text (confidential_part a) (confidential_version a) (confidential_key a) (confidential_program a)
  decoded-from_read = record {
    is_hrp = h.accepted.grammar.is_hrp;
    has_part = (h.data_part, h.accepted.grammar);
    is_address = confidential-from_read;
    spelling = λ x t same is. one_spelling code (confidential_version a) (confidential_key a) (confidential_program a) x (confidential_part a) t text same is confidential-from_read;
  }
