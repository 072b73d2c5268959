-- Strings of one length are the same, or far apart.
use Rattle.std.specs.Prelude.{◌==◌, true, false, cond, nat_le}
use Rattle.std.proofs.Common.{◌≡◌, ◌≢◌, ◌⊎◌, ℕ, suc, ◌<◌, ◌≤◌, Bool, List, [], ◌∷◌, ◌++◌, length, map, inl, inr, refl, sym, ap, subst, ◌∙◌, arith}
use Rattle.std.proofs.lemmas.Bool.{cond-false, cond-true, cases_Bool, leb-true}
use Rattle.std.proofs.lemmas.Bool.Decides.{eqb_tells}
use Rattle.std.proofs.lemmas.List.{length-append, length-map, map-append}
use Rattle.std.specs.Char.{to_ascii_lowercase}
use Rattle.bech32_gf.specs.Fe32.{element_of, elements_of}
use Rattle.bech32_gf.specs.declared.gf32.Fe32.{Fe32}
use Rattle.bech32_bch.specs.Distance.{places_that_differ}
use Rattle.bech32_hrp.specs.Hrp.{lowered}
use Rattle.bech32_checksum.specs.Code.{Code}
use Rattle.bech32_checksum.specs.Encoded.{char_of_element}
use Rattle.bech32_decode.specs.Acceptance.{IsAccepted}
use Rattle.bech32_decode.proofs.Spelling.{characters-elements, lower_text}
use Rattle.bech32_detect.specs.Bursts.{AreBurstsDetected, DifferInBurst}
use Rattle.bech32_detect.specs.Distance.{AreSameOrFar, same_element}
use Rattle.bech32_detect.specs.Texts.{AreTextsFar}
use Rattle.codex32.specs.Code.{code_of_length, codex32, long_codex32}
use Rattle.codex32.specs.Detection.{AreSameTextsOrFar}
use Rattle.codex32.specs.Share.{IsEither}
use Rattle.codex32.specs.Strings.{is_ms}
use Rattle.codex32.proofs.Refused.{lowered_ms}

-- ---- differences of lists with a common first item

module _ {A : Type 0} where
  -- without it, they differ in as few places in a row
  pub behind_first : (n : ℕ) (c : A) (xs ys : List A) → DifferInBurst n (c ∷ xs) (c ∷ ys) → DifferInBurst n xs ys
  behind_first n c xs ys burst = go burst.front burst.middle burst.other burst.back burst.first burst.second burst.alike burst.short
    where
      go : (front middle other back : List A) → c ∷ xs ≡ front ++ (middle ++ back) → c ∷ ys ≡ front ++ (other ++ back) → length other ≡ length middle → length middle ≤ n → DifferInBurst n xs ys
      go (a ∷ front) middle other back e f alike short = record { front = front; middle = middle; other = other; back = back; first = cc; second = cc; alike = alike; short = short }
      go [] (m ∷ middle) (d ∷ other) back e f alike short = record { front = []; middle = middle; other = other; back = back; first = cc; second = cc; alike = omega arith; short = omega arith }
      go [] [] [] back e f alike short = record { front = []; middle = []; other = []; back = xs; first = refl; second = cc; alike = refl; short = omega arith }
      go [] [] (d ∷ other) back e f alike short = absurd (omega arith)
      go [] (m ∷ middle) [] back e f alike short = absurd (omega arith)

  pub mapped : {B : Type 0} (f : A → B) (n : ℕ) (xs ys : List A) → DifferInBurst n xs ys → DifferInBurst n (map f xs) (map f ys)
  mapped f n xs ys burst = record {
    front = map f burst.front;
    middle = map f burst.middle;
    other = map f burst.other;
    back = map f burst.back;
    first = ap (map f) burst.first ∙ map-append f burst.front (burst.middle ++ burst.back) ∙ ap (λ u. map f burst.front ++ u) (map-append f burst.middle burst.back);
    second = ap (map f) burst.second ∙ map-append f burst.front (burst.other ++ burst.back) ∙ ap (λ u. map f burst.front ++ u) (map-append f burst.other burst.back);
    alike = length-map burst.other f ∙ burst.alike ∙ sym (length-map burst.middle f);
    short = subst (λ k. k ≤ n) (sym (length-map burst.middle f)) burst.short;
  }

longer : {A : Type 0} (n m : ℕ) (xs ys : List A) → n ≤ m → DifferInBurst n xs ys → DifferInBurst m xs ys
longer n m xs ys few burst =
    let short = burst.short in
    record { front = burst.front; middle = burst.middle; other = burst.other; back = burst.back; first = burst.first; second = burst.second; alike = burst.alike; short = omega (arith, few, short) }

-- ---- characters and elements

element_of_char : (x : Fe32) → element_of (char_of_element x) ≡ x
element_of_char x = let e : element_of (char_of_element x) ∷ [] ≡ x ∷ [] = characters-elements (x ∷ []) in cc

-- the characters differ where the elements do
characters_differ : (xs ys : List Fe32) → places_that_differ same_element xs ys ≤ places_that_differ (λ a b. a == b) (map char_of_element xs) (map char_of_element ys)
characters_differ [] ys = omega arith
characters_differ (x ∷ xs) [] = omega arith
characters_differ (x ∷ xs) (y ∷ ys) = step (eqb_tells (char_of_element x) (char_of_element y)) (characters_differ xs ys)
  where
    few : ℕ
    few = places_that_differ same_element xs ys

    all : ℕ
    all = places_that_differ (λ a b. a == b) (map char_of_element xs) (map char_of_element ys)

    most : (b : Bool) → cond b few (suc few) ≤ suc few
    most true = omega arith
    most false = omega arith

    step : (((char_of_element x == char_of_element y) ≡ true) × (char_of_element x ≡ char_of_element y)) ⊎ (((char_of_element x == char_of_element y) ≡ false) × (char_of_element x ≢ char_of_element y))
        → few ≤ all → cond (same_element x y) few (suc few) ≤ cond (char_of_element x == char_of_element y) all (suc all)
    step (inl t) h =
        let e : x ≡ y = sym (element_of_char x) ∙ ap element_of t.1 ∙ element_of_char y in
        let same : cond (same_element x y) few (suc few) ≡ few = cond-true (same_element x y) few (suc few) (same_value x y e) in
        let kept : cond (char_of_element x == char_of_element y) all (suc all) ≡ all = cond-true (char_of_element x == char_of_element y) all (suc all) t.0 in
        omega (arith, same, kept, h)
      where
        same_value : (x y : Fe32) → x ≡ y → same_element x y ≡ true
        same_value x y e = elim (eqb_tells x.value y.value) [
          | inl k ↦ k.0
          | inr k ↦ absurd (k.1 (ap (λ (z : Fe32). z.value) e))
        ]
    step (inr t) h =
        let one : cond (same_element x y) few (suc few) ≤ suc few = most (same_element x y) in
        let more : cond (char_of_element x == char_of_element y) all (suc all) ≡ suc all = cond-false (char_of_element x == char_of_element y) all (suc all) t.0 in
        omega (arith, one, more, h)

-- a string in lower case
spelled_string : (code : Code) (text hrp data_part : List ℕ) → IsAccepted code text hrp data_part → is_ms hrp ≡ true → lowered text ≡ 109 ∷ 115 ∷ 49 ∷ map char_of_element (elements_of data_part)
spelled_string code text hrp data_part is ms =
    lower_text text hrp data_part is.grammar ∙ ap (λ (u : List ℕ). u ++ (49 ∷ map char_of_element (elements_of data_part))) (lowered_ms hrp ms)

module _ (code : Code) (text hrp data_part other other_hrp other_data : List ℕ) (is : IsAccepted code text hrp data_part) (ms : is_ms hrp ≡ true) (other_is : IsAccepted code other other_hrp other_data)
    (other_ms : is_ms other_hrp ≡ true) where
  same_part : lowered other_hrp ≡ lowered hrp
  same_part = lowered_ms other_hrp other_ms ∙ sym (lowered_ms hrp ms)

  same_texts : elements_of data_part ≡ elements_of other_data → lowered other ≡ lowered text
  same_texts e =
      spelled_string code other other_hrp other_data other_is other_ms
      ∙ ap (λ (u : List Fe32). 109 ∷ 115 ∷ 49 ∷ map char_of_element u) (sym e)
      ∙ sym (spelled_string code text hrp data_part is ms)

  pub far : (bound : ℕ) → AreTextsFar code (length data_part) bound → length other ≡ length text → AreSameTextsOrFar bound text other
  far bound texts same = step (texts text hrp data_part other other_hrp other_data is other_is same_part same (omega arith))
    where
      step : AreSameOrFar bound (elements_of data_part) (elements_of other_data) → AreSameTextsOrFar bound text other
      step (inl e) = inl (same_texts e)
      step (inr h) =
          inr (subst (λ (u : List ℕ). bound < places_that_differ (λ a b. a == b) u (lowered other)) (sym (spelled_string code text hrp data_part is ms))
          (subst (λ (u : List ℕ). bound < places_that_differ (λ a b. a == b) (109 ∷ 115 ∷ 49 ∷ map char_of_element (elements_of data_part)) u) (sym (spelled_string code other other_hrp other_data other_is other_ms))
          (let more : places_that_differ same_element (elements_of data_part) (elements_of other_data) ≤ places_that_differ (λ a b. a == b) (map char_of_element (elements_of data_part)) (map char_of_element (elements_of other_data)) =
          characters_differ (elements_of data_part) (elements_of other_data) in omega (arith, h, more))))

  pub burst : (n : ℕ) → n ≤ length code.generator → AreBurstsDetected code → DifferInBurst n (lowered text) (lowered other) → lowered other ≡ lowered text
  burst n few texts differ =
      let xs : List ℕ = map char_of_element (elements_of data_part) in
      let ys : List ℕ = map char_of_element (elements_of other_data) in
      let whole : DifferInBurst n (109 ∷ 115 ∷ 49 ∷ xs) (109 ∷ 115 ∷ 49 ∷ ys) =
      subst (λ (u : List ℕ). DifferInBurst n u (109 ∷ 115 ∷ 49 ∷ ys)) (spelled_string code text hrp data_part is ms)
      (subst (λ (u : List ℕ). DifferInBurst n (lowered text) u) (spelled_string code other other_hrp other_data other_is other_ms) differ) in
      let rest : DifferInBurst n xs ys = behind_first n 49 xs ys (behind_first n 115 (49 ∷ xs) (49 ∷ ys) (behind_first n 109 (115 ∷ 49 ∷ xs) (115 ∷ 49 ∷ ys) whole)) in
      let inside : DifferInBurst n (elements_of data_part) (elements_of other_data) =
      subst (λ (u : List Fe32). DifferInBurst n u (elements_of other_data)) (characters-elements (elements_of data_part))
      (subst (λ (u : List Fe32). DifferInBurst n (elements_of xs) u) (characters-elements (elements_of other_data)) (mapped element_of n xs ys rest)) in
      same_texts (texts text hrp data_part other other_hrp other_data is other_is same_part (longer n (length code.generator) (elements_of data_part) (elements_of other_data) few inside))

-- ---- of strings of either length

by_code : (P : Code → Type 0) (n : ℕ) → P codex32 → P long_codex32 → P (code_of_length n)
by_code P n a b = elim (cases_Bool (nat_le n 93)) [
  | inl e ↦ subst P (sym (cond-true (nat_le n 93) codex32 long_codex32 e)) a
  | inr e ↦ subst P (sym (cond-false (nat_le n 93) codex32 long_codex32 e)) b
]

by_long : (P : Code → Type 0) (n : ℕ) → 125 ≤ n → P long_codex32 → P (code_of_length n)
by_long P n long b = elim (cases_Bool (nat_le n 93)) [
  | inl e ↦ absurd (let few = leb-true n 93 e in omega (arith, few, long))
  | inr e ↦ subst P (sym (cond-false (nat_le n 93) codex32 long_codex32 e)) b
]

-- texts that differ so are of one length
same_size : (n : ℕ) (text other : List ℕ) → DifferInBurst n (lowered text) (lowered other) → length other ≡ length text
same_size n text other burst =
    let alike = burst.alike in
    let first : length text ≡ length (burst.front ++ (burst.middle ++ burst.back)) = sym (length-map text to_ascii_lowercase) ∙ ap (λ (u : List ℕ). length u) burst.first in
    let second : length other ≡ length (burst.front ++ (burst.other ++ burst.back)) = sym (length-map other to_ascii_lowercase) ∙ ap (λ (u : List ℕ). length u) burst.second in
    omega (arith, first, second, alike, length-append burst.front (burst.middle ++ burst.back), length-append burst.middle burst.back, length-append burst.front (burst.other ++ burst.back), length-append burst.other burst.back)

module _ (text other : List ℕ) (is : IsEither text) (other_is : IsEither other) where
  -- strings of one length have one checksum
  pub with_code : (Q : Type 0) → length other ≡ length text
      → ((hrp data_part other_hrp other_data : List ℕ) → IsAccepted (code_of_length (length text)) text hrp data_part → is_ms hrp ≡ true
      → IsAccepted (code_of_length (length text)) other other_hrp other_data → is_ms other_hrp ≡ true → Q) → Q
  with_code Q same f =
      let (t, i, x, payload, s) = is in
      let (u, j, y, load, o) = other_is in
      f s.hrp (s.front ++ (payload ++ s.checksum)) o.hrp (o.front ++ (load ++ o.checksum)) s.accepted s.is_ms
      (subst (λ (k : ℕ). IsAccepted (code_of_length k) other o.hrp (o.front ++ (load ++ o.checksum))) same o.accepted) o.is_ms

module _ (text other : List ℕ) (is : IsEither text) (other_is : IsEither other) where
  pub strings_far : ((n : ℕ) → AreTextsFar codex32 n 8) → ((n : ℕ) → AreTextsFar long_codex32 n 8) → length other ≡ length text → AreSameTextsOrFar 8 text other
  strings_far short long same =
      with_code text other is other_is (AreSameTextsOrFar 8 text other) same (λ hrp data_part other_hrp other_data a ms b other_ms.
      far (code_of_length (length text)) text hrp data_part other other_hrp other_data a ms b other_ms 8 (by_code (λ c. AreTextsFar c (length data_part) 8) (length text) (short (length data_part)) (long (length data_part))) same)

  in_a_row : (n : ℕ) → n ≤ length (code_of_length (length text)).generator → AreBurstsDetected (code_of_length (length text)) → DifferInBurst n (lowered text) (lowered other) → lowered other ≡ lowered text
  in_a_row n few detected differ =
      with_code text other is other_is (lowered other ≡ lowered text) (same_size n text other differ) (λ hrp data_part other_hrp other_data a ms b other_ms.
      burst (code_of_length (length text)) text hrp data_part other other_hrp other_data a ms b other_ms n few detected differ)

  pub thirteen : AreBurstsDetected codex32 → AreBurstsDetected long_codex32 → DifferInBurst 13 (lowered text) (lowered other) → lowered other ≡ lowered text
  thirteen short long differ =
      in_a_row 13 (by_code (λ c. 13 ≤ length c.generator) (length text) (omega arith) (omega arith)) (by_code AreBurstsDetected (length text) short long) differ

  pub fifteen : AreBurstsDetected long_codex32 → 125 ≤ length text → DifferInBurst 15 (lowered text) (lowered other) → lowered other ≡ lowered text
  fifteen long size differ =
      in_a_row 15 (by_long (λ c. 15 ≤ length c.generator) (length text) size (omega arith)) (by_long AreBurstsDetected (length text) size long) differ
