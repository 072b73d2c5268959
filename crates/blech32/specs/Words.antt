-- Blech32 by its coefficients, and its packed words, which are those of them.
use Rattle.std.specs.Prelude.{◌≡◌, ℕ, List, [], ◌∷◌, map, refl}
use Rattle.bech32_gf.specs.Fe32 as fe32
use Rattle.bech32_gf.specs.Gf32.{product}
use Rattle.bech32_gf_ext.specs.Fe32Ext.{same_values}
use Rattle.bech32_checksum.specs.Code.{Code, code_of}
use Rattle.bech32_checksum.specs.laws.PackedLaws.{keeps}
use Rattle.bech32_checksum.specs.PackingLaws.{KeepsPackingLaws}

-- the generator x^12 + 31 x^10 + 10 x^9 + 18 x^8 + 31 x^7 + 14 x^6 + 18 x^5 + 23 x^3 + 22 x^2 + 4 x
-- + 6 and the target 1
abbrev pub blech32_code : Code
blech32_code = record {
  generator = map fe32.element (6 ∷ 4 ∷ 22 ∷ 23 ∷ 0 ∷ 18 ∷ 14 ∷ 31 ∷ 18 ∷ 10 ∷ 31 ∷ 0 ∷ []);
  target = map fe32.element (1 ∷ 0 ∷ 0 ∷ 0 ∷ 0 ∷ 0 ∷ 0 ∷ 0 ∷ 0 ∷ 0 ∷ 0 ∷ 0 ∷ []);
  code_length = 1023;
}

-- the generator, packed, and its products with 2, 4, 8 and 16
abbrev pub blech32_words : List ℕ
blech32_words =
    0x7d52fba40bd886 ∷ 0x5e8dbf1a03950c ∷ 0x1c3a3c74072a18 ∷ 0x385d72fa0e5139 ∷ 0x7093e5a608865b
    ∷ []

-- they are the packing laws of 12 elements in a word of 12, and so is the target: this is computed
pub blech32_words_keep : KeepsPackingLaws (λ (x : ℕ). x) 12 12 blech32_words 1
unfolding product
blech32_words_keep = keeps 12 12 blech32_words 1 refl

same_code : (c d : Code) → c.generator ≡ d.generator → c.target ≡ d.target
    → c.code_length ≡ d.code_length → c ≡ d
same_code c d e f g = λ i. record { generator = e i; target = f i; code_length = g i }

-- the first word and the target are those of the coefficients: this is computed too
pub blech32_is_packed : blech32_code ≡ code_of (λ (x : ℕ). x) 1023 12 blech32_words 1
blech32_is_packed = same_code _ _ (same_values _ _ refl) (same_values _ _ refl) refl
