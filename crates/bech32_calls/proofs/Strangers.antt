-- The last character of a text that is not of the alphabet.
use Rattle.std.proofs.Common.{◌≡◌, ℕ, suc, ◌+◌, ◌-◌, true, false, List, [], ◌∷◌, ◌++◌, Some, None, length, take, cond, inl, inr, refl, sym, ap, ◌∙◌, arith, append_assoc, length-append}
use Rattle.std.proofs.lemmas.Bool.{and_from}
use Rattle.std.proofs.lemmas.List.{take_at}
use Rattle.std.proofs.lemmas.Str.{encodes-IsAscii}
use Rattle.std.proofs.Math.Utf8.{encode, encodes}
use Rattle.std.specs.List.{suffix_len}
use Rattle.std.specs.Str.{chars, IsUtf8}
use Rattle.bech32_gf.specs.Alphabet.{is_of_alphabet, is_data}
use Rattle.bech32_decode.specs.Text.{last_stranger}
use Rattle.bech32_decode.proofs.Letters.{IsAscii-from_data}
use Rattle.bech32_calls.specs.Kinds.{is_continuation}
use Rattle.bech32_calls.specs.Place.{IsLastStranger}
use Rattle.bech32_calls.proofs.Ends.{end_at}
use Rattle.bech32_calls.proofs.Options.{first_of-some, first_of-none, unless-some, unless-none}
use Rattle.bech32_calls.proofs.Spelled.{spelled, bytes-around}

-- behind its first byte: where the bytes begin that are of no first byte, before those of the alphabet
pub stranger-at : (text : List ℕ) (p end start : ℕ) → IsLastStranger text p → end ≡ length text - suffix_len is_of_alphabet text
    → start ≡ length (take end text) - suffix_len is_continuation (take end text) → start ≡ suc p
stranger-at text p end start h end_is start_is =
    let s = spelled h.character in
    let word = s.lead ∷ s.others in
    let whole : text ≡ h.before ++ (word ++ h.behind) = h.split ∙ ap (λ (x : List ℕ). h.before ++ (x ++ h.behind)) s.bytes in
    let cut : text ≡ (h.before ++ s.front) ++ (s.last ∷ h.behind) =
    whole ∙ ap (λ (x : List ℕ). h.before ++ (x ++ h.behind)) s.ends ∙ ap (λ (x : List ℕ). h.before ++ x) (append_assoc s.front (s.last ∷ []) h.behind)
    ∙ sym (append_assoc h.before s.front (s.last ∷ h.behind)) in
    let ends : end ≡ suc (length (h.before ++ s.front)) =
    end_is ∙ ap (λ (x : List ℕ). length x - suffix_len is_of_alphabet x) cut
    ∙ end_at is_of_alphabet (h.before ++ s.front) h.behind s.last (s.stranger h.stranger) h.data_behind in
    let last_size : length word ≡ length s.front + 1 = ap (λ (x : List ℕ). length x) s.ends ∙ length-append s.front (s.last ∷ []) in
    let size : length (h.before ++ word) ≡ end = omega (arith, ends, last_size, length-append h.before word, length-append h.before s.front) in
    let front : take end text ≡ h.before ++ word = ap (take end) (whole ∙ sym (append_assoc h.before word h.behind)) ∙ take_at (h.before ++ word) h.behind end size in
    start_is ∙ ap (λ (x : List ℕ). length x - suffix_len is_continuation x) front ∙ end_at is_continuation h.before s.others s.lead s.lead_is s.others_are
    ∙ ap suc (sym h.place_is)

-- ---- a text that has one

record StrangerIn (cs : List ℕ) (c : ℕ) : Type 0 where
  front : List ℕ
  behind : List ℕ
  split : cs ≡ front ++ (c ∷ behind)
  stranger : is_of_alphabet c ≡ false
  data_behind : is_data behind ≡ true

all_data : (cs : List ℕ) → last_stranger cs ≡ None → is_data cs ≡ true
unfolding last_stranger
all_data [] h = refl
all_data (c ∷ cs) h =
    let parts = first_of-none (last_stranger cs) (cond (is_of_alphabet c) None (Some c)) h in
    and_from (is_of_alphabet c) (is_data cs) (unless-none (is_of_alphabet c) c parts.1) (all_data cs parts.0)

stranger-in : (cs : List ℕ) (c : ℕ) → last_stranger cs ≡ Some c → StrangerIn cs c
unfolding last_stranger
stranger-in [] c h = absurd (cc)
stranger-in (d ∷ ds) c h =
    elim (first_of-some (last_stranger ds) (cond (is_of_alphabet d) None (Some d)) c h) [
      | inl e ↦
          let s = stranger-in ds c e in
          record {
            front = d ∷ s.front;
            behind = s.behind;
            split = ap (λ (x : List ℕ). d ∷ x) s.split;
            stranger = s.stranger;
            data_behind = s.data_behind;
          }
      | inr e ↦
          let here = unless-some (is_of_alphabet d) d c e.1 in
          record {
            front = [];
            behind = ds;
            split = ap (λ (x : ℕ). x ∷ ds) here.1;
            stranger = ap is_of_alphabet (sym here.1) ∙ here.0;
            data_behind = all_data ds e.0;
          }
    ]

pub stranger-stands : (text : List ℕ) (c : ℕ) → IsUtf8 text → last_stranger (chars text) ≡ Some c → (p : ℕ) × IsLastStranger text p
stranger-stands text c u h =
    let s = stranger-in (chars text) c h in (
      length (encodes s.front),
      record {
        before = encodes s.front;
        character = c;
        behind = s.behind;
        split =
            bytes-around text s.front s.behind c u s.split
            ∙ ap (λ (x : List ℕ). encodes s.front ++ (encode c ++ x)) (encodes-IsAscii s.behind (IsAscii-from_data s.behind s.data_behind));
        place_is = refl;
        stranger = s.stranger;
        data_behind = s.data_behind;
      },
    )
