-- The first byte that may not stand in a human-readable part.
use Rattle.std.specs.Prelude.{min}
use Rattle.std.proofs.Common.{◌≡◌, ◌⊎◌, ℕ, ◌<◌, ◌≤◌, true, false, not, List, [], ◌∷◌, ◌++◌, Option, Some, None, length, leb, inl, inr, refl, sym, ap, subst, ◌∙◌, arith, append_assoc}
use Rattle.std.proofs.lemmas.Bool.{and_from, and_parts, cases_Bool, cond-true, cond-false, leb-false, leb-true, not_from_true, not_from_false, or_from}
use Rattle.std.proofs.lemmas.List.Folds.{list_all-append}
use Rattle.std.proofs.lemmas.Str.{encodes-IsAscii}
use Rattle.std.proofs.Math.Utf8.{encode, encodes}
use Rattle.std.specs.List.{list_any, list_all, position_or_len}
use Rattle.std.specs.Str.{chars, IsUtf8}
use Rattle.bech32_hrp.specs.declared.Error.{Error}
use Rattle.bech32_hrp.specs.declared.Error.TheVariants.{NonAsciiChar, InvalidAsciiByte, MixedCase}
use Rattle.bech32_hrp.specs.Hrp.{is_graphic, is_mixed_case, bad_case, bad_after, first_bad, first_of}
use Rattle.bech32_calls.specs.Place.{IsFirstOfOtherCase, IsFirstWrong, IsNotAscii, IsNotGraphic, IsOfOtherCase, IsUnfit}
use Rattle.bech32_calls.proofs.Cases.{first-at, first-behind, one_case-more}
use Rattle.bech32_calls.proofs.Letters.{IsAscii-from_graphic}
use Rattle.bech32_calls.proofs.Options.{same_inside}
use Rattle.bech32_calls.proofs.Spelled.{Spelled, spelled, bytes-around}

-- ---- what the code finds

none-wrong : (bytes : List ℕ) → list_all is_graphic bytes ≡ true → list_any (λ b. not (is_graphic b)) bytes ≡ false
none-wrong [] h = refl
none-wrong (b ∷ bs) h =
    let parts = and_parts (is_graphic b) (list_all is_graphic bs) h in
    or_from (not (is_graphic b)) (list_any (λ b. not (is_graphic b)) bs) (not_from_true (is_graphic b) parts.0) (none-wrong bs parts.1)

pub unfit-at : (part : List ℕ) (p graphic cased : ℕ) → IsFirstWrong IsUnfit part p → graphic ≡ position_or_len (λ b. not (is_graphic b)) part
    → ((q : ℕ) → IsFirstOfOtherCase part q → cased ≡ q)
    → ((front behind : List ℕ) → part ≡ front ++ behind → is_mixed_case front ≡ false → length front ≤ cased)
    → min graphic cased ≡ p
unfit-at part p graphic cased h graphic_is first behind =
    let test = λ (b : ℕ). not (is_graphic b) in
    let none = none-wrong h.before h.graphic_before in
    let place : graphic ≡ position_or_len test (h.before ++ (h.byte ∷ h.behind)) = graphic_is ∙ ap (λ (x : List ℕ). position_or_len test x) h.split in
    elim h.wrong [
      | inl other ↦
          omega (
            arith,
            h.place_is,
            place,
            first-at test h.before h.behind h.byte none (not_from_false (is_graphic h.byte) other),
            behind h.before (h.byte ∷ h.behind) h.split h.one_case_before,
          )
      | inr letter ↦
          omega (
            arith,
            h.place_is,
            place,
            first-behind test h.before (h.byte ∷ h.behind) none,
            first p (record {
              before = h.before;
              letter = h.byte;
              behind = h.behind;
              split = h.split;
              place_is = h.place_is;
              other_case = letter;
              one_case_before = h.one_case_before;
            }),
          )
    ]

-- a byte that is wrong in one way is wrong in another
module _ (A B : List ℕ → ℕ → Type 0) (also : (before : List ℕ) (byte : ℕ) → A before byte → B before byte) where
  pub wrong-also : (hrp : List ℕ) (p : ℕ) → IsFirstWrong A hrp p → IsFirstWrong B hrp p
  wrong-also hrp p h = record {
    before = h.before;
    byte = h.byte;
    behind = h.behind;
    split = h.split;
    place_is = h.place_is;
    wrong = also h.before h.byte h.wrong;
    graphic_before = h.graphic_before;
    one_case_before = h.one_case_before;
  }

pub unfit-not_ascii : (before : List ℕ) (byte : ℕ) → IsNotAscii before byte → IsUnfit before byte
unfit-not_ascii before byte h =
    let parts : is_graphic byte ≡ false = elim (cases_Bool (is_graphic byte)) [
      | inl graphic ↦ absurd (omega (arith, h, leb-true byte 126 (and_parts (leb 33 byte) (leb byte 126) graphic).1))
      | inr other ↦ other
    ] in
    inl parts

pub unfit-not_graphic : (before : List ℕ) (byte : ℕ) → IsNotGraphic before byte → IsUnfit before byte
unfit-not_graphic before byte h = inl h.1

pub unfit-other_case : (before : List ℕ) (byte : ℕ) → IsOfOtherCase before byte → IsUnfit before byte
unfit-other_case before byte h = inr h

-- ---- a part with a bad character has one

-- by what is wrong with a character
abbrev pub IsWrongBy : Error → List ℕ → ℕ → Type 0
IsWrongBy (NonAsciiChar c) before byte = IsNotAscii before byte
IsWrongBy (InvalidAsciiByte c) before byte = IsNotGraphic before byte
IsWrongBy MixedCase before byte = (byte < 128) × IsOfOtherCase before byte
IsWrongBy _ before byte = ⊥

-- a character is wrong by its fault, or it is graphic and no letter of the other case stands before it
abbrev Tells : List ℕ → ℕ → Type 0
Tells before c =
    ((e : Error) × (bad_after before c ≡ Some e) × IsWrongBy e before c)
    ⊎ ((bad_after before c ≡ None) × (is_graphic c ≡ true) × (bad_case before c ≡ false))

tells : (before : List ℕ) (c : ℕ) → Tells before c
tells before c = elim (cases_Bool (leb 128 c)) [
  | inl high ↦ inl (NonAsciiChar c, cond-true (leb 128 c) _ _ high, leb-true 128 c high)
  | inr low ↦
      let ascii : c < 128 = leb-false 128 c low in
      elim (cases_Bool (is_graphic c)) [
        | inr other ↦ inl (InvalidAsciiByte c, cond-false (leb 128 c) _ _ low ∙ cond-false (is_graphic c) _ _ other, (ascii, other))
        | inl graphic ↦ elim (cases_Bool (bad_case before c)) [
          | inl mixed ↦
              inl (MixedCase, cond-false (leb 128 c) _ _ low ∙ cond-true (is_graphic c) _ _ graphic ∙ cond-true (bad_case before c) _ _ mixed, (ascii, mixed))
          | inr fine ↦
              inr (cond-false (leb 128 c) _ _ low ∙ cond-true (is_graphic c) _ _ graphic ∙ cond-false (bad_case before c) _ _ fine, graphic, fine)
        ]
      ]
]

record BadIn (cs : List ℕ) (e : Error) : Type 0 where
  front : List ℕ
  character : ℕ
  behind : List ℕ
  split : cs ≡ front ++ (character ∷ behind)
  wrong : IsWrongBy e front character
  graphic : list_all is_graphic front ≡ true
  one_case : is_mixed_case front ≡ false

bad-in : (before cs : List ℕ) (e : Error) → list_all is_graphic before ≡ true → is_mixed_case before ≡ false → first_bad before cs ≡ Some e → BadIn (before ++ cs) e
unfolding first_bad
bad-in before [] e g m h = absurd (cc)
bad-in before (c ∷ cs) e g m h =
    let rest = first_bad (before ++ c ∷ []) cs in
    elim (tells before c) [
      | inl t ↦
          let same = same_inside t.0 e (sym (ap (λ (o : Option Error). first_of o rest) t.1) ∙ h) in
          record {
            front = before;
            character = c;
            behind = cs;
            split = refl;
            wrong = subst (λ (x : Error). IsWrongBy x before c) same t.2;
            graphic = g;
            one_case = m;
          }
      | inr t ↦
          let further : rest ≡ Some e = sym (ap (λ (o : Option Error). first_of o rest) t.0) ∙ h in
          let graphic : list_all is_graphic (before ++ c ∷ []) ≡ true =
          list_all-append is_graphic before (c ∷ []) ∙ and_from (list_all is_graphic before) (list_all is_graphic (c ∷ [])) g (and_from (is_graphic c) true t.1 refl) in
          let found = bad-in (before ++ c ∷ []) cs e graphic (one_case-more before c m t.2) further in
          subst (λ (x : List ℕ). BadIn x e) (append_assoc before (c ∷ []) cs) found
    ]

-- what is wrong with a character is wrong with its first byte
wrong-lead : (e : Error) (before : List ℕ) (c : ℕ) (s : Spelled c) → IsWrongBy e before c → IsWrongBy e before s.lead
wrong-lead (NonAsciiChar x) before c s h = s.high h
wrong-lead (InvalidAsciiByte x) before c s h = subst (λ (b : ℕ). IsNotGraphic before b) (sym (s.low h.0)) h
wrong-lead MixedCase before c s h = subst (λ (b : ℕ). (b < 128) × IsOfOtherCase before b) (sym (s.low h.0)) h
wrong-lead _ before c s h = h

pub wrong-stands : (hrp : List ℕ) (e : Error) → IsUtf8 hrp → first_bad [] (chars hrp) ≡ Some e → (p : ℕ) × IsFirstWrong (IsWrongBy e) hrp p
wrong-stands hrp e u h =
    let b = bad-in [] (chars hrp) e refl refl h in
    let s = spelled b.character in (
      length b.front,
      record {
        before = b.front;
        byte = s.lead;
        behind = s.others ++ encodes b.behind;
        split =
            bytes-around hrp b.front b.behind b.character u b.split
            ∙ ap (λ (x : List ℕ). x ++ (encode b.character ++ encodes b.behind)) (encodes-IsAscii b.front (IsAscii-from_graphic b.front b.graphic))
            ∙ ap (λ (x : List ℕ). b.front ++ (x ++ encodes b.behind)) s.bytes;
        place_is = refl;
        wrong = wrong-lead e b.front b.character s b.wrong;
        graphic_before = b.graphic;
        one_case_before = b.one_case;
      },
    )
