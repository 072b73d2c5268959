-- Thresholds as digits, and the index of the secret.
use Rattle.std.specs.Prelude.{◌==◌, ◌||◌, ◌&&◌, not, nat_le, unwrap_or, position}
use Rattle.std.specs.Char.{to_ascii_lowercase}
use Rattle.std.proofs.Common.{◌≡◌, ◌⊎◌, ℕ, ◌+◌, ◌<◌, ◌≤◌, Bool, true, false, zero, suc, inl, inr, refl, sym, ap, subst, ◌∙◌, arith}
use Rattle.std.proofs.lemmas.Bool.{agree_below_at, and_from, and_parts, cases_Bool, eq-eqb, eqb-true, le-leb, leb-true, ne_eqb, or_right}
use Rattle.bech32_gf.proofs.Characters.{below-from_alphabet}
use Rattle.bech32_gf.specs.declared.gf32.Fe32.{Fe32}
use Rattle.bech32_gf.specs.Alphabet.{alphabet, char_of, is_of_alphabet, value_of}
use Rattle.bech32_gf.specs.Fe32.{element_of, path}
use Rattle.codex32.specs.HeaderParts.{secret_index}
use Rattle.codex32.specs.Strings.{is_threshold}
use Rattle.codex32.specs.Thresholds.{is_threshold_number}

pub or_true : (x y : Bool) → (x || y) ≡ true → (x ≡ true) ⊎ (y ≡ true)
or_true true y h = inl refl
or_true false y h = inr h

-- the digit of a threshold is of the alphabet
pub digit_of_alphabet : (n : ℕ) → is_threshold_number n ≡ true → is_of_alphabet (48 + n) ≡ true
unfolding is_of_alphabet
digit_of_alphabet zero h = refl
digit_of_alphabet (suc zero) h = absurd cc
digit_of_alphabet (suc (suc zero)) h = refl
digit_of_alphabet (suc (suc (suc zero))) h = refl
digit_of_alphabet (suc (suc (suc (suc zero)))) h = refl
digit_of_alphabet (suc (suc (suc (suc (suc zero))))) h = refl
digit_of_alphabet (suc (suc (suc (suc (suc (suc zero)))))) h = refl
digit_of_alphabet (suc (suc (suc (suc (suc (suc (suc zero))))))) h = refl
digit_of_alphabet (suc (suc (suc (suc (suc (suc (suc (suc zero)))))))) h = refl
digit_of_alphabet (suc (suc (suc (suc (suc (suc (suc (suc (suc zero))))))))) h = refl
digit_of_alphabet (suc (suc (suc (suc (suc (suc (suc (suc (suc (suc n)))))))))) h =
    let number : ℕ = suc (suc (suc (suc (suc (suc (suc (suc (suc (suc n))))))))) in
    elim (or_true (number == 0) (nat_le 2 number && nat_le number 9) h) [
      | inl e ↦ let zero_is = eqb-true number 0 e in absurd (omega (arith, zero_is))
      | inr e ↦ let most : number ≤ 9 = leb-true number 9 (and_parts (nat_le 2 number) (nat_le number 9) e).1 in absurd (omega (arith, most))
    ]

-- a character that is a threshold stands for a number from 48 on
pub threshold-least : (c : ℕ) → is_threshold c ≡ true → 48 ≤ c
threshold-least c h = elim (or_true (c == 48) (nat_le 50 c && nat_le c 57) h) [
  | inl e ↦ let is = eqb-true c 48 e in omega (arith, is)
  | inr e ↦ let least : 50 ≤ c = leb-true 50 c (and_parts (nat_le 50 c) (nat_le c 57) e).0 in omega (arith, least)
]

-- `s` in either case is the index of the secret
pub secret-from_s : (c : ℕ) → to_ascii_lowercase c ≡ 115 → element_of c ≡ secret_index
unfolding value_of
secret-from_s c e = path _ _ (ap (λ d. unwrap_or (position (λ a. a == d) alphabet) 0) e)

-- ---- characters in either case

pub low_same : (b : ℕ) → b ≤ 57 → to_ascii_lowercase b ≡ b
low_same b l = eqb-true (to_ascii_lowercase b) b (agree_below_at (λ c. to_ascii_lowercase c == c) (λ _. true) 58 b refl (omega (arith, l)))

-- a character that is a digit in lower case is that digit
pub lower_low : (a : ℕ) → a < 128 → to_ascii_lowercase a ≤ 57 → a ≡ to_ascii_lowercase a
lower_low a l most =
    sym (eqb-true (to_ascii_lowercase a) a (other (not (nat_le (to_ascii_lowercase a) 57)) (to_ascii_lowercase a == a)
    (agree_below_at (λ c. not (nat_le (to_ascii_lowercase c) 57) || (to_ascii_lowercase c == c)) (λ _. true) 128 a refl l)
    (ap not (le-leb (to_ascii_lowercase a) 57 most))))
  where
    other : (x y : Bool) → (x || y) ≡ true → x ≡ false → y ≡ true
    other x y h e = let k : (false || y) ≡ true = rw e at h in k

table : (b : ℕ) → b < 128 → (not (is_of_alphabet b) || (char_of (value_of b) == to_ascii_lowercase b)) ≡ true
unfolding is_of_alphabet value_of
table b l = agree_below_at (λ b. not (is_of_alphabet b) || (char_of (value_of b) == to_ascii_lowercase b)) (λ _. true) 128 b refl l

second : (x y : Bool) → (not x || y) ≡ true → x ≡ true → y ≡ true
second x y h e = let k : (not true || y) ≡ true = rw e at h in k

-- a character of the alphabet is, in lower case, that of its element
pub char-value : (b : ℕ) → is_of_alphabet b ≡ true → char_of (value_of b) ≡ to_ascii_lowercase b
char-value b h = eqb-true _ _ (second (is_of_alphabet b) _ (table b (below-from_alphabet b h)) h)

pub number-most : (n : ℕ) → is_threshold_number n ≡ true → n ≤ 9
number-most n h = elim (or_true (n == 0) (nat_le 2 n && nat_le n 9) h) [
  | inl e ↦ let zero_is = eqb-true n 0 e in omega (arith, zero_is)
  | inr e ↦ leb-true n 9 (and_parts (nat_le 2 n) (nat_le n 9) e).1
]

-- the digit of a threshold is a threshold
pub threshold_of_digit : (n : ℕ) → is_threshold_number n ≡ true → is_threshold (48 + n) ≡ true
threshold_of_digit n h = elim (or_true (n == 0) (nat_le 2 n && nat_le n 9) h) [
  | inl e ↦ let zero_is = eqb-true n 0 e in subst (λ k. is_threshold (48 + k) ≡ true) (sym zero_is) refl
  | inr e ↦
      let parts = and_parts (nat_le 2 n) (nat_le n 9) e in
      let least : 2 ≤ n = leb-true 2 n parts.0 in
      let most : n ≤ 9 = leb-true n 9 parts.1 in
      or_right (48 + n == 48) (nat_le 50 (48 + n) && nat_le (48 + n) 57)
      (and_from (nat_le 50 (48 + n)) (nat_le (48 + n) 57) (le-leb 50 (48 + n) (omega (arith, least))) (le-leb (48 + n) 57 (omega (arith, most))))
]

-- a character that stands for the element of a threshold's digit is that digit
pub digit_is : (a n : ℕ) → is_of_alphabet a ≡ true → is_threshold_number n ≡ true → element_of a ≡ element_of (48 + n) → a ≡ 48 + n
digit_is a n letter lawful e =
    let most : n ≤ 9 = number-most n lawful in
    let values : value_of a ≡ value_of (48 + n) = ap (λ (x : Fe32). x.value) e in
    let lower : to_ascii_lowercase a ≡ 48 + n =
    sym (char-value a letter) ∙ ap char_of values ∙ char-value (48 + n) (digit_of_alphabet n lawful) ∙ low_same (48 + n) (omega (arith, most)) in
    lower_low a (below-from_alphabet a letter) (omega (arith, lower, most)) ∙ lower

-- one that stands for the index of the secret is `s`
pub s_is : (a : ℕ) → is_of_alphabet a ≡ true → element_of a ≡ secret_index → to_ascii_lowercase a ≡ 115
s_is a letter e = sym (char-value a letter) ∙ ap (λ (x : Fe32). char_of x.value) e

-- ---- tests of words, and of what they stand for

pub zero_test : (n : ℕ) → (48 + n == 48) ≡ (n == 0)
zero_test zero = refl
zero_test (suc n) = ne_eqb (48 + suc n) 48 (λ e. absurd (omega (arith, e))) ∙ sym (ne_eqb (suc n) 0 (λ e. absurd (omega (arith, e))))

pub s_test : (c : ℕ) → is_of_alphabet c ≡ true → (to_ascii_lowercase c == 115) ≡ ((element_of c).value == 16)
s_test c h = elim (cases_Bool (to_ascii_lowercase c == 115)) [
  | inl e ↦
      let is : element_of c ≡ secret_index = secret-from_s c (eqb-true (to_ascii_lowercase c) 115 e) in
      e ∙ sym (eq-eqb (element_of c).value 16 (ap (λ (x : Fe32). x.value) is))
  | inr e ↦
      e ∙ sym (ne_eqb (element_of c).value 16 (λ k.
      let same : to_ascii_lowercase c ≡ 115 = s_is c h (path _ _ k) in
      absurd (let t = sym e ∙ eq-eqb (to_ascii_lowercase c) 115 same in cc)))
]
