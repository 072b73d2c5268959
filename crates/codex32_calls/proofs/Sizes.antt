-- Nearest texts are no longer than the strings that are meant.
use Rattle.std.specs.Prelude.{nat_le, IfOk, MatchOption, MatchResult}
use Rattle.std.proofs.Common.{◌≡◌, ◌≤◌, ℕ, Bool, true, false, cond, List, ◌∷◌, length, map, Option, Some, None, Result, Ok, Err, ap, ◌∙◌, arith, refl, length-append}
use Rattle.std.proofs.lemmas.Bool.{and_parts, leb-true}
use Rattle.std.proofs.lemmas.List.{length-map}
use Rattle.bech32_checksum.specs.Code.{Code}
use Rattle.bech32_checksum.specs.Encoded.{char_of_element}
use Rattle.bech32_decode.proofs.Grammar.{none_first}
use Rattle.bech32_decode.specs.Text.{split_at_last, text_refusal}
use Rattle.bech32_hrp.specs.Hrp.{first_of, lowered}
use Rattle.codex32.specs.Damaged.{read_character, read_data, read_text}
use Rattle.codex32.specs.Nearest.{IsNearestAnswer, IsNearestBy, IsNearestLongAnswer, IsNearestLongText, IsNearestText, IsProposeLongRefusal, IsProposeRefusal}
use Rattle.codex32.specs.Strings.{as_text, codex32_length_fault, frame_refusal, frame_refusal_by, long_frame_refusal, hrp_fault, is_within, is_within_long}
use Rattle.codex32.specs.Code.{codex32, long_codex32}
use Rattle.codex32.specs.declared.error.Codex32Error.{Codex32Error}
use Rattle.codex32.specs.declared.error.Codex32Error.TheVariants.{Length}

within : (may_be : ℕ → Bool) (n : ℕ) → codex32_length_fault may_be n ≡ None → may_be n ≡ true
within may_be n h = go (may_be n) h
  where
    go : (b : Bool) → cond b None (Some Length) ≡ None → b ≡ true
    go true h = refl
    go false h = absurd cc

-- a text that may be mended has a lawful length
pub read-within : (may_be : ℕ → Bool) (text : List ℕ) → frame_refusal_by may_be (read_text text) ≡ None → may_be (length (read_text text)) ≡ true
read-within may_be text h =
    let read = read_text text in
    let parts = none_first (as_text (text_refusal read)) (first_of (codex32_length_fault may_be (length read)) (hrp_fault (split_at_last read))) h in
    let sized = none_first (codex32_length_fault may_be (length read)) (hrp_fault (split_at_last read)) parts.1 in
    within may_be (length read) sized.0

-- the nearest text is as long as the text
pub nearest-long : (code : Code) (text nearest : List ℕ) → IsNearestBy code text nearest → length nearest ≡ length (read_text text)
nearest-long code text nearest is =
    let spelled = ap length is.spelling ∙ length-append (lowered is.hrp) (49 ∷ map char_of_element is.elements) in
    let read = ap length is.grammar.split ∙ length-append is.hrp (49 ∷ read_data is.damaged) in
    omega (
      arith,
      spelled,
      read,
      length-map is.elements char_of_element,
      length-map is.damaged read_character,
      length-lowered is.hrp,
      is.same_length,
    )
  where
    length-lowered : (hrp : List ℕ) → length (lowered hrp) ≡ length hrp
    length-lowered hrp = length-map hrp _

pub nearest-fits : (code : Code) (text nearest : List ℕ) → frame_refusal_by is_within (read_text text) ≡ None → IsNearestBy code text nearest → length nearest ≤ 127
nearest-fits code text nearest h is =
    let parts = and_parts (nat_le 48 (length (read_text text))) (nat_le (length (read_text text)) 93) (read-within is_within text h) in
    let most = leb-true (length (read_text text)) 93 parts.1 in
    omega (arith, most, nearest-long code text nearest is)

pub nearest_long-fits : (code : Code) (text nearest : List ℕ) → frame_refusal_by is_within_long (read_text text) ≡ None → IsNearestBy code text nearest → length nearest ≤ 127
nearest_long-fits code text nearest h is =
    let parts = and_parts (nat_le 125 (length (read_text text))) (nat_le (length (read_text text)) 127) (read-within is_within_long text h) in
    let most = leb-true (length (read_text text)) 127 parts.1 in
    omega (arith, most, nearest-long code text nearest is)

-- what is proposed fits
pub answer-fits : {S : Type 0} (bytes : S → List ℕ) (text : List ℕ) (r : Result (Option S) Codex32Error) → MatchResult r (λ _. frame_refusal (read_text text) ≡ None) (λ e. IsProposeRefusal text e)
    → IfOk r (λ answer. IsNearestAnswer bytes text answer)
    → IfOk r (λ answer. MatchOption answer ((nearest : List ℕ) → IsNearestText text nearest → ⊥) (λ s. IsNearestText text (bytes s) × (length (bytes s) ≤ 127)))
answer-fits bytes text (Ok (Some s)) h is = (is, nearest-fits codex32 text (bytes s) h is)
answer-fits bytes text (Ok None) h none = none
answer-fits bytes text (Err e) h is = tt

-- what is proposed fits
pub answer_long-fits : {S : Type 0} (bytes : S → List ℕ) (text : List ℕ) (r : Result (Option S) Codex32Error) → MatchResult r (λ _. long_frame_refusal (read_text text) ≡ None) (λ e. IsProposeLongRefusal text e)
    → IfOk r (λ answer. IsNearestLongAnswer bytes text answer)
    → IfOk r (λ answer. MatchOption answer ((nearest : List ℕ) → IsNearestLongText text nearest → ⊥) (λ s. IsNearestLongText text (bytes s) × (length (bytes s) ≤ 127)))
answer_long-fits bytes text (Ok (Some s)) h is = (is, nearest_long-fits long_codex32 text (bytes s) h is)
answer_long-fits bytes text (Ok None) h none = none
answer_long-fits bytes text (Err e) h is = tt
