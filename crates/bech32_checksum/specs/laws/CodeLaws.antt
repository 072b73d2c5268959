-- The codes of the checksums are those of their packed words.
use Rattle.std.specs.Prelude.{◌≡◌, ℕ, List, [], ◌∷◌, map, refl}
use Rattle.bech32_gf.specs.Gf32.{product}
use Rattle.bech32_gf.specs.Fe32 as fe32
use Rattle.bech32_gf.specs.declared.gf32.Fe32.{Fe32}
use Rattle.bech32_checksum.specs.Code.{Code, code_of, bech32, bech32m}
use Rattle.bech32_checksum.specs.laws.PackedLaws.{keeps}
use Rattle.bech32_checksum.specs.PackingLaws.{KeepsPackingLaws}

-- the generator, packed, and its products with 2, 4, 8 and 16
abbrev pub words : List ℕ
words = 0x3b6a57b2 ∷ 0x26508e6d ∷ 0x1ea119fa ∷ 0x3d4233dd ∷ 0x2a1462b3 ∷ []

pub bech32_keeps : KeepsPackingLaws (λ (x : ℕ). x) 6 6 words 1
unfolding product
bech32_keeps = keeps 6 6 words 1 refl

same_cons : (x y : Fe32) (xs ys : List Fe32) → x ≡ y → xs ≡ ys → x ∷ xs ≡ y ∷ ys
same_cons x y xs ys e f = cc

-- elements of equal values are equal
same_values : (xs ys : List Fe32) → map (λ (x : Fe32). x.value) xs ≡ map (λ (y : Fe32). y.value) ys
    → xs ≡ ys
same_values [] [] e = refl
same_values [] (y ∷ ys) e = cc
same_values (x ∷ xs) [] e = cc
same_values (x ∷ xs) (y ∷ ys) e =
    let first : x.value ≡ y.value = cc in
    let rest : map (λ (x : Fe32). x.value) xs ≡ map (λ (y : Fe32). y.value) ys = cc in
    same_cons x y xs ys (fe32.path x y first) (same_values xs ys rest)

same_code : (c d : Code) → c.generator ≡ d.generator → c.target ≡ d.target
    → c.code_length ≡ d.code_length → c ≡ d
same_code c d e f g = λ i. record { generator = e i; target = f i; code_length = g i }

pub bech32_is_packed : bech32 ≡ code_of (λ (x : ℕ). x) 1023 6 words 1
bech32_is_packed = same_code _ _ (same_values _ _ refl) (same_values _ _ refl) refl

pub bech32m_is_packed : bech32m ≡ code_of (λ (x : ℕ). x) 1023 6 words 0x2bc830a3
bech32m_is_packed = same_code _ _ (same_values _ _ refl) (same_values _ _ refl) refl
