-- Elements of an extension field, as lists of coefficients.
use Rattle.std.specs.Prelude.{◌≡◌, ℕ, List, [], ◌∷◌, length, map, slice_index_or}
use Rattle.std.proofs.Common.{refl, ◌∙◌}
use Rattle.std.proofs.lemmas.List.{length-map}
use mathlib.Core.HLevel.{is_prop→PathP, hedberg}
use native.Mathlib.Decide.{ℕ_discrete}
use Rattle.bech32_gf.specs.declared.gf32.Fe32.{Fe32}
use Rattle.bech32_gf_ext.specs.declared.Fe32Ext.{Fe32Ext}
use Rattle.bech32_gf.specs.Alphabet.{char_of}
use Rattle.bech32_gf.specs.Fe32 as fe32

-- two elements of the same coefficients are equal
pub path : {n : ℕ} (x y : Fe32Ext n) → x.inner ≡ y.inner → x ≡ y
path {n} x y e =
    λ i. record {
      inner = e i;
      full = is_prop→PathP (λ j. length (e j) ≡ n)
          (λ j. hedberg ℕ_discrete (length (e j)) n) x.full y.full i;
    }

-- two lists of elements with the same values are equal
pub same_values : (xs ys : List Fe32)
    → map (λ (x : Fe32). x.value) xs ≡ map (λ (x : Fe32). x.value) ys → xs ≡ ys
same_values [] [] h = refl
same_values [] (y ∷ ys) h = cc
same_values (x ∷ xs) [] h = cc
same_values (x ∷ xs) (y ∷ ys) h =
    let first : x.value ≡ y.value = cc in
    let rest : map (λ (x : Fe32). x.value) xs ≡ map (λ (x : Fe32). x.value) ys = cc in
    λ i. fe32.path x y first i ∷ same_values xs ys rest i

-- the values of the coefficients
abbrev pub values : {n : ℕ} → Fe32Ext n → List ℕ
values x = map (λ (a : Fe32). a.value) x.inner

pub path_of_values : {n : ℕ} (x y : Fe32Ext n) → values x ≡ values y → x ≡ y
path_of_values x y h = path x y (same_values x.inner y.inner h)

-- the ext_coefficient of a power of z (zero from the degree on)
abbrev pub ext_coefficient : {n : ℕ} → Fe32Ext n → ℕ → Fe32
ext_coefficient x k = slice_index_or x.inner k fe32.zero

pub length-scaled : {n : ℕ} (x : Fe32Ext n) (a : Fe32)
    → length (map (λ (b : Fe32). fe32.mul b a) x.inner) ≡ n
length-scaled x a = length-map x.inner (λ (b : Fe32). fe32.mul b a) ∙ x.full

-- the product with an element of GF(32), place by place
unfoldable pub scaled : {n : ℕ} → Fe32Ext n → Fe32 → Fe32Ext n
scaled x a = record { inner = map (λ (b : Fe32). fe32.mul b a) x.inner; full = length-scaled x a }

-- the characters of the coefficients, in order
abbrev pub text_of : {n : ℕ} → Fe32Ext n → List ℕ
text_of x = map (λ (a : Fe32). char_of a.value) x.inner
