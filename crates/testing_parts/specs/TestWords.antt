-- Packed words of the checksums that tests declare.
use Rattle.std.specs.Prelude.{◌≡◌, ℕ, List, [], ◌∷◌, true, refl}
use Rattle.bech32_gf.specs.Gf32.{product}
use Rattle.bech32_checksum.specs.Code.{Code, code_of}
use Rattle.bech32_checksum.specs.laws.PackedLaws.{keeps}
use Rattle.bech32_checksum.specs.PackingLaws.{KeepsPackingLaws}

-- the generator x + 1, packed, and its products with 2, 4, 8 and 16
abbrev pub words_1 : List ℕ
words_1 = 1 ∷ 2 ∷ 4 ∷ 8 ∷ 16 ∷ []

pub words_1_keep : KeepsPackingLaws (λ (x : ℕ). x) 6 1 words_1 1
unfolding product
words_1_keep = keeps 6 1 words_1 1 refl

abbrev pub code_1 : ℕ → Code
code_1 code_length = code_of (λ (x : ℕ). x) code_length 1 words_1 1
