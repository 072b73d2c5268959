-- Packed words of the checksums that tests declare.
use Rattle.std.specs.Prelude.{◌≡◌, ℕ, List, [], ◌∷◌, true, refl}
use Rattle.bech32_gf.specs.Gf32.{product}
use Rattle.bech32_checksum.specs.Code.{Code, code_of}
use Rattle.bech32_checksum.specs.laws.CodeLaws.{words}
use Rattle.bech32_checksum.specs.laws.PackedLaws.{keeps}
use Rattle.bech32_checksum.specs.PackingLaws.{KeepsPackingLaws}

-- a generator of degree 13, that of codex32, packed, and its products with 2, 4, 8 and 16
abbrev pub words_13 : List ℕ
words_13 =
    0x19dc500ce73fde210 ∷ 0x1bfae00def77fe529 ∷ 0x1fbd920fffe7bee52
    ∷ 0x1739640bdeee3fdad ∷ 0x07729a039cfc75f5a ∷ []

pub words_13_keep : KeepsPackingLaws (λ (x : ℕ). x) 25 13 words_13 0x10ce0795c2fd1e62a
unfolding product
words_13_keep = keeps 25 13 words_13 0x10ce0795c2fd1e62a refl

abbrev pub code_13 : ℕ → Code
code_13 code_length = code_of (λ (x : ℕ). x) code_length 13 words_13 0x10ce0795c2fd1e62a

-- the generator x^2 + 6 x + 8, packed, and its products with 2, 4, 8 and 16
abbrev pub words_2 : List ℕ
words_2 = 0xc8 ∷ 0x190 ∷ 0x309 ∷ 0x332 ∷ 0x36d ∷ []

pub words_2_keep : KeepsPackingLaws (λ (x : ℕ). x) 6 2 words_2 1
unfolding product
words_2_keep = keeps 6 2 words_2 1 refl

abbrev pub code_2 : Code
code_2 = code_of (λ (x : ℕ). x) 31 2 words_2 1

-- the generator and the target of Bech32, for texts of another length
abbrev pub code_6 : ℕ → Code
code_6 code_length = code_of (λ (x : ℕ). x) code_length 6 words 1
