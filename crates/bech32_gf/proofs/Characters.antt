-- The table of values, and which characters are of the alphabet.
use Rattle.std.proofs.Common.{◌≡◌, ℕ, ◌<◌, ◌≤◌, Bool, true, false, List, [], ◌∷◌, ◌||◌, get_or, eqb, ltb, refl, ap, ◌∙◌, arith, inl, inr}
use mathlib.Core.Bool.{not}
use Rattle.std.proofs.lemmas.Bool.{agree_below_at, eqb-true, ne_eqb, and_parts, ltb-true, or_from, cases_lt}
use Rattle.std.proofs.lemmas.Str.Ascii.{lowercase_is}
use Rattle.std.specs.List.{list_any, list_all}
use Rattle.std.specs.Char.{to_ascii_lowercase}
use Rattle.bech32_gf.specs.Alphabet.{is_of_alphabet, value_of, alphabet}
use Rattle.bech32_gf.specs.declared.gf32.TheConstants.{VALUES}

not_among : (xs : List ℕ) (c : ℕ) → list_all (λ a. ltb a 128) xs ≡ true → 128 ≤ c → list_any (λ a. eqb a c) xs ≡ false
not_among [] c h l = refl
not_among (x ∷ xs) c h l =
    let parts = and_parts (ltb x 128) (list_all (λ a. ltb a 128) xs) h in
    let small : x < 128 = ltb-true x 128 parts.0 in
    or_from (eqb x c) (list_any (λ a. eqb a c) xs) (ne_eqb x c (λ e. omega arith)) (not_among xs c parts.1 l)

-- a character from 128 on is not of the alphabet
pub is_of_alphabet-high : (c : ℕ) → 128 ≤ c → is_of_alphabet c ≡ false
unfolding is_of_alphabet
is_of_alphabet-high c l =
    let same : to_ascii_lowercase c ≡ c = (lowercase_is c).2 (omega arith) in
    ap (λ (m : ℕ). list_any (λ a. eqb a m) alphabet) same ∙ not_among alphabet c refl l

-- a character of the alphabet is ASCII
pub below-from_alphabet : (c : ℕ) → is_of_alphabet c ≡ true → c < 128
below-from_alphabet c h =
    elim (cases_lt c 128) [
      | inl low ↦ low
      | inr high ↦ absurd (let none = is_of_alphabet-high c high in cc)
    ]

-- the table tells which characters are of the alphabet
pub VALUES-below : (c : ℕ) → c < 128 → ltb (get_or VALUES c 0) 32 ≡ is_of_alphabet c
unfolding is_of_alphabet
VALUES-below c l = agree_below_at (λ b. ltb (get_or VALUES b 0) 32) is_of_alphabet 128 c refl l

table : (b : ℕ) → b < 128 → (not (is_of_alphabet b) || eqb (get_or VALUES b 0) (value_of b)) ≡ true
unfolding is_of_alphabet value_of
table b l = agree_below_at (λ b. not (is_of_alphabet b) || eqb (get_or VALUES b 0) (value_of b)) (λ _. true) 128 b refl l

second : (x y : Bool) → (not x || y) ≡ true → x ≡ true → y ≡ true
second x y h e = let k : (not true || y) ≡ true = rw e at h in k

-- and their values
pub VALUES-value : (b : ℕ) → is_of_alphabet b ≡ true → get_or VALUES b 0 ≡ value_of b
VALUES-value b h = eqb-true _ _ (second (is_of_alphabet b) _ (table b (below-from_alphabet b h)) h)
