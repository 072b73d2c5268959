-- The code of descriptors is that of its packed words.
use Rattle.std.specs.Prelude.{◌≡◌, ℕ, List, [], ◌∷◌, map, refl}
use Rattle.bech32_gf.specs.Gf32.{product}
use Rattle.bech32_gf.specs.Fe32 as fe32
use Rattle.bech32_gf.specs.declared.gf32.Fe32.{Fe32}
use Rattle.bech32_checksum.specs.Code.{Code, code_of}
use Rattle.bech32_checksum.specs.laws.PackedLaws.{keeps}
use Rattle.bech32_checksum.specs.PackingLaws.{KeepsPackingLaws}
use Rattle.bech32_descriptor.specs.Code.{descriptor}

-- the generator, packed, and its products with 2, 4, 8 and 16
abbrev pub words : List ℕ
words = 0xf5dee51989 ∷ 0xa9fdca3312 ∷ 0x1bab10e32d ∷ 0x3706b1677a ∷ 0x644d626ffd ∷ []

pub descriptor_keeps : KeepsPackingLaws (λ (x : ℕ). x) 12 8 words 1
unfolding product
descriptor_keeps = keeps 12 8 words 1 refl

-- elements of equal values are equal
same_values : (xs ys : List Fe32) → map (λ (x : Fe32). x.value) xs ≡ map (λ (y : Fe32). y.value) ys
    → xs ≡ ys
same_values [] [] e = refl
same_values [] (y ∷ ys) e = cc
same_values (x ∷ xs) [] e = cc
same_values (x ∷ xs) (y ∷ ys) e =
    let first : x.value ≡ y.value = cc in
    let rest : map (λ (x : Fe32). x.value) xs ≡ map (λ (y : Fe32). y.value) ys = cc in
    λ i. fe32.path x y first i ∷ same_values xs ys rest i

same_code : (c d : Code) → c.generator ≡ d.generator → c.target ≡ d.target
    → c.code_length ≡ d.code_length → c ≡ d
same_code c d e f g = λ i. record { generator = e i; target = f i; code_length = g i }

pub descriptor_is_packed : descriptor ≡ code_of (λ (x : ℕ). x) 32767 8 words 1
descriptor_is_packed = same_code _ _ (same_values _ _ refl) (same_values _ _ refl) refl
