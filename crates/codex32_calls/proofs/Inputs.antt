-- What is given for a header.
use Rattle.std.specs.Prelude.{◌==◌, ◌&&◌, not, MatchResult}
use Rattle.std.proofs.Common.{◌≡◌, ◌≤◌, ℕ, cond, List, Option, Some, None, Result, Ok, Err, length, sym, ap, ◌∙◌}
use Rattle.std.proofs.lemmas.Bool.{and_parts, cond-false, false_from_ne_true}
use Rattle.std.proofs.lemmas.Str.{IsUtf8-from_ascii}
use Rattle.std.specs.Str.{IsUtf8}
use Rattle.bech32_gf.proofs.Characters.{is_of_alphabet-high}
use Rattle.bech32_gf.specs.Alphabet.{is_data, is_of_alphabet}
use Rattle.bech32_gf.specs.Fe32.{element_of, elements_of}
use Rattle.bech32_gf.specs.declared.gf32.Fe32.{Fe32}
use Rattle.bech32_hrp.specs.Hrp.{first_of, is_mixed_case}
use Rattle.bech32_decode.proofs.Letters.{IsAscii-from_data}
use Rattle.codex32.specs.Header.{identifier_of_header, share_index_of_header, threshold_of_header}
use Rattle.codex32.specs.HeaderParts.{identifier_elements, identifier_word_fault, is_identifier_word, threshold_number, unshared_fault}
use Rattle.codex32.specs.declared.error.HeaderError.{HeaderError}
use Rattle.codex32.specs.declared.error.HeaderError.TheVariants as refusals
use Rattle.codex32.specs.declared.header.Header.{Header}
use Rattle.codex32.specs.declared.identifier.Identifier.{Identifier}
use Rattle.codex32.specs.declared.threshold.Threshold.{Threshold}
use Rattle.codex32_calls.specs.Encode.{IsHeaderOf, header_number_fault, share_index_number_fault, threshold_number_fault, unshared_number_fault}

-- what is no text is no identifier
pub identifier_fault-not_utf8 : (word : List ℕ) → ¬ (IsUtf8 word) → identifier_word_fault word ≡ Some refusals.Identifier
identifier_fault-not_utf8 word h =
    cond-false (is_identifier_word word) None (Some refusals.Identifier)
    (false_from_ne_true (is_identifier_word word)
    (λ t.
    let parts = and_parts (length word == 4) (is_data word && not (is_mixed_case word)) t in
    let letters = and_parts (is_data word) (not (is_mixed_case word)) parts.1 in
    h (IsUtf8-from_ascii word (IsAscii-from_data word letters.0))))

-- the alphabet is ASCII
pub share_index_fault-high : (x : ℕ) → 128 ≤ x → share_index_number_fault x ≡ Some refusals.ShareIndex
share_index_fault-high x h = cond-false (is_of_alphabet x) None (Some refusals.ShareIndex) (is_of_alphabet-high x h)

past_parts : (t : ℕ) (w : List ℕ) (x : ℕ) → threshold_number_fault t ≡ None → identifier_word_fault w ≡ None → share_index_number_fault x ≡ None → header_number_fault t w x ≡ unshared_number_fault t x
past_parts t w x h k l =
    ap (λ (o : Option HeaderError). first_of o (first_of (identifier_word_fault w) (first_of (share_index_number_fault x) (unshared_number_fault t x)))) h
    ∙ ap (λ (o : Option HeaderError). first_of o (first_of (share_index_number_fault x) (unshared_number_fault t x))) k
    ∙ ap (λ (o : Option HeaderError). first_of o (unshared_number_fault t x)) l

same_unshared : (t : Threshold) (x : Fe32) (n c : ℕ) → threshold_number t ≡ n → x ≡ element_of c → unshared_number_fault n c ≡ unshared_fault t x
same_unshared t x n c h k =
    ap (λ (m : ℕ). cond (m == 0 && not ((element_of c).value == 16)) (Some refusals.Unshared) None) (sym h)
    ∙ ap (λ (y : Fe32). cond (t.number == 0 && not (y.value == 16)) (Some refusals.Unshared) None) (sym k)

-- a header of its parts
pub header-from_numbers : (n : ℕ) (w : List ℕ) (c : ℕ) (t : Threshold) (i : Identifier) (x : Fe32) (r : Result Header HeaderError)
    → (threshold_number_fault n ≡ None) × (threshold_number t ≡ n) → (identifier_word_fault w ≡ None) × (identifier_elements i ≡ elements_of w)
    → (share_index_number_fault c ≡ None) × (x ≡ element_of c)
    → MatchResult r (λ h. (unshared_fault t x ≡ None) × (threshold_of_header h ≡ t) × (identifier_of_header h ≡ i) × (share_index_of_header h ≡ x)) (λ e. unshared_fault t x ≡ Some e)
    → MatchResult r (λ h. IsHeaderOf n w c h) (λ e. header_number_fault n w c ≡ Some e)
header-from_numbers n w c t i x (Ok h) a b d made = record {
  fine = past_parts n w c a.0 b.0 d.0 ∙ same_unshared t x n c a.1 d.1 ∙ made.0;
  threshold_is = ap threshold_number made.1 ∙ a.1;
  identifier_is = ap identifier_elements made.2 ∙ b.1;
  share_index_is = made.3 ∙ d.1;
}
header-from_numbers n w c t i x (Err e) a b d made = past_parts n w c a.0 b.0 d.0 ∙ same_unshared t x n c a.1 d.1 ∙ made
