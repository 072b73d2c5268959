-- The code of long strings is that of its packed words.
use Rattle.std.specs.Prelude.{◌≡◌, ℕ, List, [], ◌∷◌, refl}
use Rattle.bech32_gf.specs.Gf32.{product}
use Rattle.bech32_checksum.specs.Code.{code_of}
use Rattle.bech32_checksum.specs.laws.PackedLaws.{keeps}
use Rattle.bech32_checksum.specs.PackingLaws.{KeepsPackingLaws}
use Rattle.codex32.specs.Code.{long_codex32}
use Rattle.codex32.specs.laws.CodeLaws.{same_code, same_values}

-- the generator, packed, and its products with 2, 4, 8 and 16 (BIP-93, Long codex32 Strings)
abbrev pub long_words : List ℕ
long_words =
    0x3d59d273535ea62d897 ∷ 0x7a9becb6361c6c51507 ∷ 0x543f9b7e6c38d8a2a0e
    ∷ 0x0c577eaeccf1990d13c ∷ 0x1887f74f8dc71b10651 ∷ []

pub long_codex32_keeps : KeepsPackingLaws (λ (x : ℕ). x) 25 15 long_words 0x43381e570bf4798ab26
unfolding product
long_codex32_keeps = keeps 25 15 long_words 0x43381e570bf4798ab26 refl

pub long_codex32_is_packed :
    long_codex32 ≡ code_of (λ (x : ℕ). x) 1023 15 long_words 0x43381e570bf4798ab26
long_codex32_is_packed = same_code _ _ (same_values _ _ refl) (same_values _ _ refl) refl
