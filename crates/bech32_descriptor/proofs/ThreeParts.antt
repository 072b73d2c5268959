-- The tables of parts, computed over all bytes, and the word of six characters.
use Rattle.std.specs.Prelude.{nat_lt}
use Rattle.std.proofs.Common.{◌≡◌, ◌<◌, ◌+◌, ◌*◌, ◌/◌, ◌%◌, ◌^◌, ◌==◌, ℕ, [], ◌∷◌, get_or, refl, ◌∙◌, arith}
use Rattle.std.proofs.lemmas.Bool.{eqb-true, ltb-true}
use Rattle.bech32_gf.specs.Fe32 as fe32
use Rattle.bech32_gf.specs.Fe32.{element}
use Rattle.bech32_gf.specs.laws.Below.{each_below-at}
use Rattle.bech32_poly.proofs.Lists.{same_cons}
use Rattle.bech32_checksum.specs.Word.{word_elements}
use Rattle.bech32_descriptor.specs.Descriptor.{group, place_of, symbol}
use Rattle.bech32_descriptor.specs.Words.{number_of_three}
use Rattle.bech32_descriptor.specs.declared.parts.TheConstants.{FIRSTS, SECONDS, THIRDS}

first : (b : ℕ) → b < 256 → get_or FIRSTS b 0 ≡ place_of b % 32 * 2 ^ 15 + 9 * (place_of b / 32)
unfolding place_of
first b h = eqb-true _ _ (each_below-at 256 (λ b. get_or FIRSTS b 0 == place_of b % 32 * 2 ^ 15 + 9 * (place_of b / 32)) refl b h)

second : (b : ℕ) → b < 256 → get_or SECONDS b 0 ≡ place_of b % 32 * 2 ^ 10 + 3 * (place_of b / 32)
unfolding place_of
second b h = eqb-true _ _ (each_below-at 256 (λ b. get_or SECONDS b 0 == place_of b % 32 * 2 ^ 10 + 3 * (place_of b / 32)) refl b h)

third : (b : ℕ) → b < 256 → get_or THIRDS b 0 ≡ place_of b % 32 * 2 ^ 5 + place_of b / 32
unfolding place_of
third b h = eqb-true _ _ (each_below-at 256 (λ b. get_or THIRDS b 0 == place_of b % 32 * 2 ^ 5 + place_of b / 32) refl b h)

few : (b : ℕ) → b < 256 → place_of b < 96
unfolding place_of
few b h = ltb-true _ _ (each_below-at 256 (λ b. nat_lt (place_of b) 96) refl b h)

pub parts : (a b c : ℕ) → a < 256 → b < 256 → c < 256 → get_or FIRSTS a 0 + get_or SECONDS b 0 + get_or THIRDS c 0 ≡ number_of_three a b c
parts a b c ha hb hc = λ i. first a ha i + second b hb i + third c hc i

pub three_below : (a b c : ℕ) → a < 256 → b < 256 → c < 256 → number_of_three a b c < 2 ^ 20
three_below a b c ha hb hc =
    let x = few a ha in
    let y = few b hb in
    let z = few c hc in
    omega (arith, x, y, z)

-- the digits of a row of eight
module _ (a b c d e f g h n : ℕ) (ha : a < 32) (hb : b < 32) (hc : c < 32) (hd : d < 32) (he : e < 32) (hf : f < 32) (hg : g < 32) (hh : h < 32)
    (is : n ≡ (a * 2 ^ 15 + b * 2 ^ 10 + c * 2 ^ 5 + d) * 2 ^ 20 + (e * 2 ^ 15 + f * 2 ^ 10 + g * 2 ^ 5 + h)) where
  d7 : n / 2 ^ 35 % 32 ≡ a % 32
  d7 = omega arith

  d6 : n / 2 ^ 30 % 32 ≡ b % 32
  d6 = omega arith

  d5 : n / 2 ^ 25 % 32 ≡ c % 32
  d5 = omega arith

  d4 : n / 2 ^ 20 % 32 ≡ d % 32
  d4 = omega arith

  d3 : n / 2 ^ 15 % 32 ≡ e % 32
  d3 = omega arith

  d2 : n / 2 ^ 10 % 32 ≡ f % 32
  d2 = omega arith

  d1 : n / 2 ^ 5 % 32 ≡ g % 32
  d1 = omega arith

  d0 : n / 2 ^ 0 % 32 ≡ h % 32
  d0 = omega arith

  same : (x y : ℕ) → x % 32 ≡ y % 32 → element x ≡ element y
  same x y e = fe32.path (element x) (element y) e

  elements_are : word_elements n ≡ element a ∷ element b ∷ element c ∷ element d ∷ element e ∷ element f ∷ element g ∷ element h ∷ []
  elements_are =
      same_cons _ _ _ _ (same _ _ d7) (same_cons _ _ _ _ (same _ _ d6) (same_cons _ _ _ _ (same _ _ d5) (same_cons _ _ _ _ (same _ _ d4)
      (same_cons _ _ _ _ (same _ _ d3) (same_cons _ _ _ _ (same _ _ d2) (same_cons _ _ _ _ (same _ _ d1) (same_cons _ _ _ _ (same _ _ d0) refl)))))))

-- the elements of the word of six characters are their symbols
pub six_elements : (a b c d e f : ℕ) → a < 256 → b < 256 → c < 256 → d < 256 → e < 256 → f < 256
    → word_elements (number_of_three a b c * 2 ^ 20 + number_of_three d e f)
    ≡ symbol a ∷ symbol b ∷ symbol c ∷ element (9 * group a + 3 * group b + group c)
    ∷ symbol d ∷ symbol e ∷ symbol f ∷ element (9 * group d + 3 * group e + group f) ∷ []
six_elements a b c d e f ha hb hc hd he hf =
    let pa = place_of a in
    let pb = place_of b in
    let pc = place_of c in
    let pd = place_of d in
    let pe = place_of e in
    let pf = place_of f in
    let x = few a ha in
    let y = few b hb in
    let z = few c hc in
    let u = few d hd in
    let v = few e he in
    let w = few f hf in
    let whole = elements_are (pa % 32) (pb % 32) (pc % 32) (9 * (pa / 32) + 3 * (pb / 32) + pc / 32) (pd % 32) (pe % 32) (pf % 32) (9 * (pd / 32) + 3 * (pe / 32) + pf / 32)
    (number_of_three a b c * 2 ^ 20 + number_of_three d e f) (omega arith) (omega arith) (omega arith) (omega (arith, x, y, z)) (omega arith) (omega arith) (omega arith) (omega (arith, u, v, w)) (omega arith) in
    let reduced = λ (p : ℕ). fe32.path (element (p % 32)) (element p) (omega arith) in
    whole
    ∙ same_cons _ _ _ _ (reduced pa) (same_cons _ _ _ _ (reduced pb) (same_cons _ _ _ _ (reduced pc) (same_cons _ _ _ _ refl
    (same_cons _ _ _ _ (reduced pd) (same_cons _ _ _ _ (reduced pe) (same_cons _ _ _ _ (reduced pf) (same_cons _ _ _ _ refl refl)))))))
