-- Strings in their parts, and that these are not refused.
use Rattle.std.specs.Prelude.{◌↔◌, nat_le, IsOk, MatchResult}
use Rattle.std.specs.Char.{to_ascii_lowercase}
use Rattle.std.specs.Str.{IsUtf8}
use Rattle.std.proofs.Common.{◌≡◌, ℕ, ◌+◌, ◌-◌, ◌<◌, ◌≤◌, true, List, [], ◌∷◌, ◌++◌, None, Result, Ok, Err, length, take, drop, get_or, inl, inr, refl, sym, ap, subst, ◌∙◌, arith}
use Rattle.std.proofs.lemmas.Bool.{and_from, le-leb}
use Rattle.std.proofs.lemmas.List.{length-drop, take-append-drop}
use Rattle.bech32_decode.specs.Acceptance.{IsAccepted}
use Rattle.bech32_decode.proofs.Grammar.{none_first, only-from_IsText, text_refusal-none}
use Rattle.codex32.specs.Code.{codex32}
use Rattle.codex32.specs.Parts.{IsStringOf, identifier_of, payload_of, share_index_of, threshold_of}
use Rattle.codex32.specs.Strings.{IsBodyRefusal, IsCodex32, IsString, IsStringRefusal, frame_refusal, header_fault, is_threshold, is_within, share_index_fault, threshold_fault}
use Rattle.codex32.specs.declared.error.Codex32Error.{Codex32Error}
use Rattle.codex32.specs.declared.string.Codex32Str.{Codex32Str}
use Rattle.codex32.proofs.Refused.{IsFramed, body_refuted, header_none, none_share_index, none_threshold, not_refused}

-- ---- the parts

-- the characters at their places are the parts
module _ (text hrp data_part : List ℕ) (s : Codex32Str) (accepted : IsAccepted codex32 text hrp data_part) (framed : IsFramed text hrp data_part)
    (header : header_fault data_part ≡ None) (threshold : threshold_of s ≡ get_or text 3 0) (identifier : identifier_of s ≡ take 4 (drop 4 text))
    (share_index : share_index_of s ≡ get_or text 8 0) (payload : payload_of s ≡ take (length text - 22) (drop 9 text)) where
  short_data : (d : List ℕ) → data_part ≡ d → length d < 6 → IsStringOf text s
  short_data d f l = let size = framed.size in let long = framed.long in absurd (omega (arith, l, size, long, ap length f))

  placed : (h d : List ℕ) → hrp ≡ h → data_part ≡ d → IsStringOf text s
  placed (a ∷ b ∷ []) (t ∷ i ∷ j ∷ k ∷ l ∷ c ∷ rest) e f =
      let whole : text ≡ a ∷ b ∷ 49 ∷ t ∷ i ∷ j ∷ k ∷ l ∷ c ∷ rest = accepted.grammar.split ∙ ap (λ (h : List ℕ). h ++ (49 ∷ data_part)) e ∙ ap (λ (d : List ℕ). a ∷ b ∷ 49 ∷ d) f in
      let is_t : threshold_of s ≡ t = threshold ∙ ap (λ (u : List ℕ). get_or u 3 0) whole in
      let is_i : identifier_of s ≡ i ∷ j ∷ k ∷ l ∷ [] = identifier ∙ ap (λ (u : List ℕ). take 4 (drop 4 u)) whole in
      let is_c : share_index_of s ≡ c = share_index ∙ ap (λ (u : List ℕ). get_or u 8 0) whole in
      let is_p : payload_of s ≡ take (length text - 22) rest = payload ∙ ap (λ (u : List ℕ). take (length text - 22) (drop 9 u)) whole in
      let behind : payload_of s ++ drop (length text - 22) rest ≡ rest = ap (λ (u : List ℕ). u ++ drop (length text - 22) rest) is_p ∙ take-append-drop (length text - 22) rest in
      let count = ap length whole in
      let size : length text ≡ 9 + length rest = omega (arith, count) in
      let sum : length (drop (length text - 22) rest) ≡ length rest - (length text - 22) = length-drop (length text - 22) rest in
      let long : 48 ≤ length text = framed.long in
      let parts = none_first (threshold_fault (get_or data_part 0 0)) (share_index_fault (get_or data_part 0 0) (get_or data_part 5 0)) header in
      let digit : is_threshold t ≡ true = ap (λ (d : List ℕ). is_threshold (get_or d 0 0)) (sym f) ∙ none_threshold (get_or data_part 0 0) parts.0 in
      let unshared : t ≡ 48 → to_ascii_lowercase c ≡ 115 =
      subst (λ (d : List ℕ). get_or d 0 0 ≡ 48 → to_ascii_lowercase (get_or d 5 0) ≡ 115) f (none_share_index (get_or data_part 0 0) (get_or data_part 5 0) parts.1) in
      record {
        hrp = hrp;
        checksum = drop (length text - 22) rest;
        is_string = record {
          accepted = subst (IsAccepted codex32 text hrp) (f ∙ sym (λ x. is_t x ∷ (is_i x ++ (is_c x ∷ behind x)))) accepted;
          is_ms = framed.is_ms;
          long = framed.long;
          identifier_length = ap length is_i;
          checksum_length = omega (arith, sum, size, long);
          is_threshold = ap is_threshold is_t ∙ digit;
          unshared = λ z. ap to_ascii_lowercase is_c ∙ unshared (sym is_t ∙ z);
        };
      }
  placed [] d e f = let two = framed.two in absurd (omega (arith, two, ap length e))
  placed (a ∷ []) d e f = let two = framed.two in absurd (omega (arith, two, ap length e))
  placed (a ∷ b ∷ m ∷ h) d e f = let two = framed.two in absurd (omega (arith, two, ap length e))
  placed (a ∷ b ∷ []) [] e f = short_data [] f (omega arith)
  placed (a ∷ b ∷ []) (t ∷ []) e f = short_data (t ∷ []) f (omega arith)
  placed (a ∷ b ∷ []) (t ∷ i ∷ []) e f = short_data (t ∷ i ∷ []) f (omega arith)
  placed (a ∷ b ∷ []) (t ∷ i ∷ j ∷ []) e f = short_data (t ∷ i ∷ j ∷ []) f (omega arith)
  placed (a ∷ b ∷ []) (t ∷ i ∷ j ∷ k ∷ []) e f = short_data (t ∷ i ∷ j ∷ k ∷ []) f (omega arith)
  placed (a ∷ b ∷ []) (t ∷ i ∷ j ∷ k ∷ l ∷ []) e f = short_data (t ∷ i ∷ j ∷ k ∷ l ∷ []) f (omega arith)

  pub string_of : IsStringOf text s
  string_of = placed hrp data_part refl refl

-- ---- a codex32 string is not refused

string_framed : (text hrp : List ℕ) (threshold : ℕ) (identifier : List ℕ) (share_index : ℕ) (payload checksum : List ℕ) → IsUtf8 text
    → IsString text hrp threshold identifier share_index payload checksum → frame_refusal text ≡ None
string_framed text hrp threshold identifier share_index payload checksum u is =
    let data_part : List ℕ = threshold ∷ (identifier ++ (share_index ∷ (payload ++ checksum))) in
    not_refused is_within text hrp data_part (text_refusal-none text u (hrp, data_part, is.accepted.grammar))
    (and_from (nat_le 48 (length text)) (nat_le (length text) 93) (le-leb 48 (length text) is.long) (le-leb (length text) 93 is.accepted.text_length))
    is.accepted.grammar is.is_ms

refuted : (text : List ℕ) (e : Codex32Error) → IsUtf8 text → IsCodex32 text → IsStringRefusal text e → ⊥
refuted text e u (hrp, threshold, identifier, share_index, payload, checksum, is) (inl h) =
    absurd (let k = sym (string_framed text hrp threshold identifier share_index payload checksum u is) ∙ h in cc)
refuted text e u (hrp, threshold, identifier, share_index, payload, checksum, is) (inr later) =
    let data_part : List ℕ = threshold ∷ (identifier ++ (share_index ∷ (payload ++ checksum))) in
    let (same_hrp, same_data) = only-from_IsText text hrp (threshold ∷ (identifier ++ (share_index ∷ (payload ++ checksum)))) is.accepted.grammar later.hrp later.data_part later.grammar.split later.grammar.data_bytes in
    body_refuted codex32 text hrp (threshold ∷ (identifier ++ (share_index ∷ (payload ++ checksum)))) e is.accepted
    (header_none threshold share_index identifier (payload ++ checksum) is.identifier_length is.is_threshold is.unshared)
    (subst (λ (h : List ℕ). IsBodyRefusal text h (threshold ∷ (identifier ++ (share_index ∷ (payload ++ checksum)))) e) same_hrp
    (subst (λ (d : List ℕ). IsBodyRefusal text later.hrp d e) same_data later.refusal))

pub accepts-from_outcome : (text : List ℕ) → IsUtf8 text → (r : Result Codex32Str Codex32Error) → MatchResult r (λ s. IsStringOf text s) (λ e. IsStringRefusal text e)
    → IsOk r ↔ IsCodex32 text
accepts-from_outcome text u (Ok s) h =
    (λ _. (h.hrp, threshold_of s, identifier_of s, share_index_of s, payload_of s, h.checksum, h.is_string), λ _. refl)
accepts-from_outcome text u (Err e) h = (λ ok. absurd (cc), λ is. absurd (refuted text e u is h))
