-- The bytes of a character, in UTF-8.
use Rattle.std.proofs.Common.{◌≡◌, ℕ, ◌+◌, ◌/◌, ◌%◌, ◌<◌, ◌≤◌, true, false, List, [], ◌∷◌, ◌++◌, leb, ltb, inl, inr, refl, sym, ap, ◌∙◌, arith}
use Rattle.std.proofs.lemmas.Bool.{and_from, and_left, and_right, cases_lt, cond-true, cond-false, le-leb, lt-leb, lt-ltb, le-ltb}
use Rattle.std.proofs.lemmas.Nat.{mod_below}
use Rattle.std.proofs.lemmas.Str.{encode_ascii, encodes-append, encodes-chars}
use Rattle.std.proofs.Math.Utf8.{encode, encodes}
use Rattle.std.specs.List.{list_all}
use Rattle.std.specs.Str.{chars, IsUtf8}
use Rattle.bech32_gf.specs.Alphabet.{is_of_alphabet}
use Rattle.bech32_gf.proofs.Characters.{is_of_alphabet-high}
use Rattle.bech32_calls.specs.Kinds.{is_continuation}

-- a first byte, and others; the last byte of all
pub record Spelled (c : ℕ) : Type 0 where
  pub lead : ℕ
  pub others : List ℕ
  pub bytes : encode c ≡ lead ∷ others
  pub lead_is : is_continuation lead ≡ false
  pub others_are : list_all is_continuation others ≡ true
  pub low : c < 128 → lead ≡ c
  pub high : 128 ≤ c → 128 ≤ lead
  pub front : List ℕ
  pub last : ℕ
  pub ends : lead ∷ others ≡ front ++ (last ∷ [])
  pub stranger : is_of_alphabet c ≡ false → is_of_alphabet last ≡ false

other_is : (m : ℕ) → is_continuation (128 + m % 64) ≡ true
other_is m =
    and_from (leb 128 (128 + m % 64)) (leb (128 + m % 64) 191) (le-leb 128 (128 + m % 64) (omega arith))
    (le-leb (128 + m % 64) 191 (omega (arith, mod_below m 64 (omega arith))))

low_is : (b : ℕ) → b < 128 → is_continuation b ≡ false
low_is b l = and_left (leb 128 b) (leb b 191) (lt-leb 128 b l)

high_is : (b : ℕ) → 191 < b → is_continuation b ≡ false
high_is b l = and_right (leb 128 b) (leb b 191) (lt-leb b 191 l)

pub spelled : (c : ℕ) → Spelled c
unfolding encode
spelled c =
    let last = 128 + c % 64 in
    let third = 128 + (c / 64) % 64 in
    let second = 128 + (c / 4096) % 64 in
    let last_no : is_of_alphabet c ≡ false → is_of_alphabet last ≡ false = λ n. is_of_alphabet-high last (omega arith) in
    let one : list_all is_continuation (last ∷ []) ≡ true = and_from (is_continuation last) true (other_is c) refl in
    let two : list_all is_continuation (third ∷ last ∷ []) ≡ true = and_from (is_continuation third) (list_all is_continuation (last ∷ [])) (other_is (c / 64)) one in
    elim (cases_lt c 128) [
      | inl low ↦
          record {
            lead = c;
            others = [];
            bytes = encode_ascii c low;
            lead_is = low_is c low;
            others_are = refl;
            low = λ l. refl;
            high = λ l. l;
            front = [];
            last = c;
            ends = refl;
            stranger = λ n. n;
          }
      | inr more_than_one ↦
          elim (cases_lt c 2048) [
            | inl low ↦
                record {
                  lead = 192 + c / 64;
                  others = last ∷ [];
                  bytes = cond-false (ltb c 128) _ _ (le-ltb c 128 more_than_one) ∙ cond-true (ltb c 2048) _ _ (lt-ltb c 2048 low);
                  lead_is = high_is (192 + c / 64) (omega arith);
                  others_are = one;
                  low = λ l. absurd (omega (arith, l, more_than_one));
                  high = λ l. omega arith;
                  front = (192 + c / 64) ∷ [];
                  last = last;
                  ends = refl;
                  stranger = last_no;
                }
            | inr more_than_two ↦
                elim (cases_lt c 65536) [
                  | inl low ↦
                      record {
                        lead = 224 + c / 4096;
                        others = third ∷ last ∷ [];
                        bytes =
                            cond-false (ltb c 128) _ _ (le-ltb c 128 more_than_one) ∙ cond-false (ltb c 2048) _ _ (le-ltb c 2048 more_than_two)
                            ∙ cond-true (ltb c 65536) _ _ (lt-ltb c 65536 low);
                        lead_is = high_is (224 + c / 4096) (omega arith);
                        others_are = two;
                        low = λ l. absurd (omega (arith, l, more_than_one));
                        high = λ l. omega arith;
                        front = (224 + c / 4096) ∷ third ∷ [];
                        last = last;
                        ends = refl;
                        stranger = last_no;
                      }
                  | inr more_than_three ↦
                      record {
                        lead = 240 + c / 262144;
                        others = second ∷ third ∷ last ∷ [];
                        bytes =
                            cond-false (ltb c 128) _ _ (le-ltb c 128 more_than_one) ∙ cond-false (ltb c 2048) _ _ (le-ltb c 2048 more_than_two)
                            ∙ cond-false (ltb c 65536) _ _ (le-ltb c 65536 more_than_three);
                        lead_is = high_is (240 + c / 262144) (omega arith);
                        others_are = and_from (is_continuation second) (list_all is_continuation (third ∷ last ∷ [])) (other_is (c / 4096)) two;
                        low = λ l. absurd (omega (arith, l, more_than_one));
                        high = λ l. omega arith;
                        front = (240 + c / 262144) ∷ second ∷ third ∷ [];
                        last = last;
                        ends = refl;
                        stranger = last_no;
                      }
                ]
          ]
    ]

-- the bytes of a text around one of its characters
pub bytes-around : (text front behind : List ℕ) (c : ℕ) → IsUtf8 text → chars text ≡ front ++ (c ∷ behind) → text ≡ encodes front ++ (encode c ++ encodes behind)
bytes-around text front behind c u e = sym (encodes-chars text u) ∙ ap encodes e ∙ encodes-append front (c ∷ behind)
