-- Texts in one case, and the elements that they spell.
use Rattle.std.proofs.Common.{◌≡◌, ◌⊎◌, ℕ, ◌<◌, ◌≤◌, Bool, true, false, List, [], ◌∷◌, ◌++◌, ◌||◌, ◌&&◌, map, length, eqb, refl, sym, ap, ◌∙◌, arith, inl, inr, ⊎_elim}
use mathlib.Core.Bool.{not}
use Rattle.std.proofs.lemmas.Bool.{and_parts, and_cases, or_parts, agree_below_at, eqb-true}
use Rattle.std.proofs.lemmas.Bool.Decides.{nat_tests}
use Rattle.std.proofs.lemmas.List.{map-append, length-map}
use Rattle.std.specs.List.{list_any, list_all}
use Rattle.std.specs.Char.{to_ascii_lowercase, to_ascii_uppercase}
use Rattle.bech32_gf.specs.Alphabet.{is_of_alphabet, is_data, value_of, char_of}
use Rattle.bech32_gf.specs.Fe32.{element_of, elements_of, path}
use Rattle.bech32_gf.specs.declared.gf32.Fe32.{Fe32}
use Rattle.bech32_gf.proofs.Characters.{below-from_alphabet}
use Rattle.bech32_hrp.proofs.Lowered.{lowered-lowered, lowered-raised}
use Rattle.bech32_hrp.specs.Hrp.{IsHrp, is_lower, is_upper, is_graphic, lowered}
use Rattle.bech32_checksum.specs.Encoded.{char_of_element, spelled}
use Rattle.bech32_decode.specs.Text.{IsText}

-- ---- from a text to what it spells

table : (b : ℕ) → b < 128 → (not (is_of_alphabet b) || eqb (char_of (value_of b)) (to_ascii_lowercase b)) ≡ true
unfolding is_of_alphabet value_of
table b l = agree_below_at (λ b. not (is_of_alphabet b) || eqb (char_of (value_of b)) (to_ascii_lowercase b)) (λ _. true) 128 b refl l

second : (x y : Bool) → (not x || y) ≡ true → x ≡ true → y ≡ true
second x y h e = let k : (not true || y) ≡ true = rw e at h in k

-- a character of the alphabet is, in lower case, that of its element
char-value : (b : ℕ) → is_of_alphabet b ≡ true → char_of (value_of b) ≡ to_ascii_lowercase b
char-value b h = eqb-true _ _ (second (is_of_alphabet b) _ (table b (below-from_alphabet b h)) h)

chars-elements : (bytes : List ℕ) → is_data bytes ≡ true → map char_of_element (elements_of bytes) ≡ lowered bytes
chars-elements [] h = refl
chars-elements (b ∷ bs) h =
    let parts = and_parts (is_of_alphabet b) (is_data bs) h in
    ap (λ (c : ℕ). c ∷ map char_of_element (elements_of bs)) (char-value b parts.0) ∙ ap (λ (cs : List ℕ). to_ascii_lowercase b ∷ cs) (chars-elements bs parts.1)

pub lower_text : (text hrp data_part : List ℕ) → IsText text hrp data_part → lowered text ≡ spelled hrp (elements_of data_part)
lower_text text hrp data_part is =
    ap lowered is.split ∙ map-append to_ascii_lowercase hrp (49 ∷ data_part)
    ∙ ap (λ (x : List ℕ). lowered hrp ++ 49 ∷ x) (sym (chars-elements data_part is.data_bytes))

lower_same : (b : ℕ) → is_upper b ≡ false → to_ascii_lowercase b ≡ b
lower_same b h = grind (arith, nat_tests, h)

raised_same : (b : ℕ) → is_lower b ≡ false → to_ascii_uppercase (to_ascii_lowercase b) ≡ b
raised_same b h = grind (arith, nat_tests, h)

lower_all : (bytes : List ℕ) → list_any is_upper bytes ≡ false → lowered bytes ≡ bytes
lower_all [] h = refl
lower_all (b ∷ bs) h =
    let parts = or_parts (is_upper b) (list_any is_upper bs) h in
    ap (λ (c : ℕ). c ∷ lowered bs) (lower_same b parts.0) ∙ ap (λ (cs : List ℕ). b ∷ cs) (lower_all bs parts.1)

raised_all : (bytes : List ℕ) → list_any is_lower bytes ≡ false → map to_ascii_uppercase (lowered bytes) ≡ bytes
raised_all [] h = refl
raised_all (b ∷ bs) h =
    let parts = or_parts (is_lower b) (list_any is_lower bs) h in
    ap (λ (c : ℕ). c ∷ map to_ascii_uppercase (lowered bs)) (raised_same b parts.0) ∙ ap (λ (cs : List ℕ). b ∷ cs) (raised_all bs parts.1)

-- a text is in lower case throughout or in upper case throughout
pub in_one_case : (text hrp data_part : List ℕ) → IsText text hrp data_part → (text ≡ lowered text) ⊎ (text ≡ map to_ascii_uppercase (lowered text))
in_one_case text hrp data_part is =
    ⊎_elim
    (λ (no_lower : list_any is_lower text ≡ false). inr (sym (raised_all text no_lower)))
    (λ (no_upper : list_any is_upper text ≡ false). inl (sym (lower_all text no_upper)))
    (and_cases (list_any is_lower text) (list_any is_upper text) is.one_case)

-- ---- from elements to their texts

abbrev raised : List ℕ → List ℕ
raised bytes = map to_ascii_uppercase bytes

abbrev is_spelling : ℕ → ℕ → Bool
is_spelling v c = is_of_alphabet c && eqb (value_of c) v

spellings : (v : ℕ) → v < 32 → (is_spelling v (char_of v) && is_spelling v (to_ascii_uppercase (char_of v))) ≡ true
unfolding is_of_alphabet value_of
spellings v l = agree_below_at (λ v. is_spelling v (char_of v) && is_spelling v (to_ascii_uppercase (char_of v))) (λ _. true) 32 v refl l

uppers : (v : ℕ) → v < 32 → is_upper (char_of v) ≡ false
uppers v l = agree_below_at (λ v. is_upper (char_of v)) (λ _. false) 32 v refl l

abbrev Spells : List ℕ → List Fe32 → Type 0
Spells bytes fes = (is_data bytes ≡ true) × (elements_of bytes ≡ fes)

spells-more : (c : ℕ) (bytes : List ℕ) (x : Fe32) (fes : List Fe32) → is_spelling x.value c ≡ true → Spells bytes fes → Spells (c ∷ bytes) (x ∷ fes)
spells-more c bytes x fes h rest =
    let parts = and_parts (is_of_alphabet c) (eqb (value_of c) x.value) h in (
      ap (λ (t : Bool). t && is_data bytes) parts.0 ∙ rest.0,
      ap (λ (y : Fe32). y ∷ elements_of bytes) (path (element_of c) x (eqb-true (value_of c) x.value parts.1)) ∙ ap (λ (l : List Fe32). x ∷ l) rest.1,
    )

spells-lower : (fes : List Fe32) → Spells (map char_of_element fes) fes
spells-lower [] = (refl, refl)
spells-lower (x ∷ fes) =
    let both = and_parts (is_spelling x.value (char_of x.value)) (is_spelling x.value (to_ascii_uppercase (char_of x.value))) (spellings x.value x.in_field) in
    spells-more (char_of x.value) (map char_of_element fes) x fes both.0 (spells-lower fes)

spells-raised : (fes : List Fe32) → Spells (raised (map char_of_element fes)) fes
spells-raised [] = (refl, refl)
spells-raised (x ∷ fes) =
    let both = and_parts (is_spelling x.value (char_of x.value)) (is_spelling x.value (to_ascii_uppercase (char_of x.value))) (spellings x.value x.in_field) in
    spells-more (to_ascii_uppercase (char_of x.value)) (raised (map char_of_element fes)) x fes both.1 (spells-raised fes)

no_upper : (b : ℕ) → is_upper (to_ascii_lowercase b) ≡ false
no_upper b = grind (arith, nat_tests)

no_lower : (b : ℕ) → is_lower (to_ascii_uppercase b) ≡ false
no_lower b = grind (arith, nat_tests)

graphic_lower : (b : ℕ) → is_graphic b ≡ true → is_graphic (to_ascii_lowercase b) ≡ true
graphic_lower b h = grind (arith, nat_tests, h)

graphic_raised : (b : ℕ) → is_graphic b ≡ true → is_graphic (to_ascii_uppercase b) ≡ true
graphic_raised b h = grind (arith, nat_tests, h)

any-none : (p : ℕ → Bool) (f : ℕ → ℕ) → ((b : ℕ) → p (f b) ≡ false) → (bytes : List ℕ) → list_any p (map f bytes) ≡ false
any-none p f h [] = refl
any-none p f h (b ∷ bs) = ap (λ (t : Bool). t || list_any p (map f bs)) (h b) ∙ any-none p f h bs

all-kept : (p : ℕ → Bool) (f : ℕ → ℕ) → ((b : ℕ) → p b ≡ true → p (f b) ≡ true) → (bytes : List ℕ) → list_all p bytes ≡ true → list_all p (map f bytes) ≡ true
all-kept p f h [] e = refl
all-kept p f h (b ∷ bs) e =
    let parts = and_parts (p b) (list_all p bs) e in
    ap (λ (t : Bool). t && list_all p (map f bs)) (h b parts.0) ∙ all-kept p f h bs parts.1

one-false : (a b : Bool) → (a ≡ false) ⊎ (b ≡ false) → (a && b) ≡ false
one-false true b (inl e) = absurd cc
one-false true b (inr e) = e
one-false false b h = refl

hrp-lowered : (hrp : List ℕ) → IsHrp hrp → IsHrp (lowered hrp)
hrp-lowered hrp is =
    let n : length (lowered hrp) ≡ length hrp = length-map hrp to_ascii_lowercase in
    let a : 1 ≤ length hrp = is.not_empty in
    let b : length hrp ≤ 83 = is.not_long in
    record {
      not_empty = omega arith;
      not_long = omega arith;
      graphic = all-kept is_graphic to_ascii_lowercase graphic_lower hrp is.graphic;
      one_case = one-false (list_any is_lower (lowered hrp)) (list_any is_upper (lowered hrp)) (inr (any-none is_upper to_ascii_lowercase no_upper hrp));
    }

hrp-raised : (hrp : List ℕ) → IsHrp hrp → IsHrp (raised hrp)
hrp-raised hrp is =
    let n : length (raised hrp) ≡ length hrp = length-map hrp to_ascii_uppercase in
    let a : 1 ≤ length hrp = is.not_empty in
    let b : length hrp ≤ 83 = is.not_long in
    record {
      not_empty = omega arith;
      not_long = omega arith;
      graphic = all-kept is_graphic to_ascii_uppercase graphic_raised hrp is.graphic;
      one_case = one-false (list_any is_lower (raised hrp)) (list_any is_upper (raised hrp)) (inl (any-none is_lower to_ascii_uppercase no_lower hrp));
    }

any-append : (p : ℕ → Bool) (xs ys : List ℕ) → list_any p xs ≡ false → list_any p ys ≡ false → list_any p (xs ++ ys) ≡ false
any-append p [] ys h k = k
any-append p (x ∷ xs) ys h k =
    let parts = or_parts (p x) (list_any p xs) h in
    ap (λ (t : Bool). t || list_any p (xs ++ ys)) parts.0 ∙ any-append p xs ys parts.1 k

characters-no_upper : (fes : List Fe32) → list_any is_upper (map char_of_element fes) ≡ false
characters-no_upper [] = refl
characters-no_upper (x ∷ fes) = ap (λ (t : Bool). t || list_any is_upper (map char_of_element fes)) (uppers x.value x.in_field) ∙ characters-no_upper fes

-- a text that is spelled so has these elements
pub record IsSpelled (text hrp : List ℕ) (fes : List Fe32) : Type 0 where
  pub part : List ℕ
  pub data_part : List ℕ
  pub grammar : IsText text part data_part
  pub same_part : lowered part ≡ lowered hrp
  pub elements : elements_of data_part ≡ fes

-- the lower-case characters of elements stand for them
pub characters-elements : (fes : List Fe32) → elements_of (map char_of_element fes) ≡ fes
characters-elements fes = (spells-lower fes).1

-- the lower-case text is in the grammar, with these parts
pub spelled-text : (hrp : List ℕ) (fes : List Fe32) → IsHrp hrp → IsText (spelled hrp fes) (lowered hrp) (map char_of_element fes)
spelled-text hrp fes is = record {
  split = refl;
  is_hrp = hrp-lowered hrp is;
  data_bytes = (spells-lower fes).0;
  one_case = one-false (list_any is_lower (spelled hrp fes)) (list_any is_upper (spelled hrp fes))
      (inr (any-append is_upper (lowered hrp) (49 ∷ map char_of_element fes) (any-none is_upper to_ascii_lowercase no_upper hrp) (characters-no_upper fes)));
}

pub spelled-lower : (hrp : List ℕ) (fes : List Fe32) → IsHrp hrp → IsSpelled (spelled hrp fes) hrp fes
spelled-lower hrp fes is = record {
  part = lowered hrp;
  data_part = map char_of_element fes;
  grammar = spelled-text hrp fes is;
  same_part = lowered-lowered hrp;
  elements = characters-elements fes;
}

pub spelled-raised : (hrp : List ℕ) (fes : List Fe32) → IsHrp hrp → IsSpelled (map to_ascii_uppercase (spelled hrp fes)) hrp fes
spelled-raised hrp fes is = record {
  part = raised (lowered hrp);
  data_part = raised (map char_of_element fes);
  grammar = record {
    split = map-append to_ascii_uppercase (lowered hrp) (49 ∷ map char_of_element fes);
    is_hrp = hrp-raised (lowered hrp) (hrp-lowered hrp is);
    data_bytes = (spells-raised fes).0;
    one_case = one-false (list_any is_lower (raised (spelled hrp fes))) (list_any is_upper (raised (spelled hrp fes)))
        (inl (any-none is_lower to_ascii_uppercase no_lower (spelled hrp fes)));
  };
  same_part = lowered-raised hrp;
  elements = (spells-raised fes).1;
}
