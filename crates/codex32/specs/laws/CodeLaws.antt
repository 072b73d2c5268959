-- The code of codex32 is that of its packed words.
use Rattle.std.specs.Prelude.{◌≡◌, ℕ, List, [], ◌∷◌, map, refl}
use Rattle.bech32_gf.specs.Gf32.{product}
use Rattle.bech32_gf.specs.Fe32 as fe32
use Rattle.bech32_gf.specs.declared.gf32.Fe32.{Fe32}
use Rattle.bech32_checksum.specs.Code.{Code, code_of}
use Rattle.bech32_checksum.specs.laws.PackedLaws.{keeps}
use Rattle.bech32_checksum.specs.PackingLaws.{KeepsPackingLaws}
use Rattle.codex32.specs.Code.{codex32}

-- the generator, packed, and its products with 2, 4, 8 and 16 (BIP-93, Checksum)
abbrev pub words : List ℕ
words =
    0x19dc500ce73fde210 ∷ 0x1bfae00def77fe529 ∷ 0x1fbd920fffe7bee52
    ∷ 0x1739640bdeee3fdad ∷ 0x07729a039cfc75f5a ∷ []

pub codex32_keeps : KeepsPackingLaws (λ (x : ℕ). x) 25 13 words 0x10ce0795c2fd1e62a
unfolding product
codex32_keeps = keeps 25 13 words 0x10ce0795c2fd1e62a refl

same_cons : (x y : Fe32) (xs ys : List Fe32) → x ≡ y → xs ≡ ys → x ∷ xs ≡ y ∷ ys
same_cons x y xs ys e f = cc

-- elements of equal values are equal
pub same_values : (xs ys : List Fe32)
    → map (λ (x : Fe32). x.value) xs ≡ map (λ (y : Fe32). y.value) ys → xs ≡ ys
same_values [] [] e = refl
same_values [] (y ∷ ys) e = cc
same_values (x ∷ xs) [] e = cc
same_values (x ∷ xs) (y ∷ ys) e =
    let first : x.value ≡ y.value = cc in
    let rest : map (λ (x : Fe32). x.value) xs ≡ map (λ (y : Fe32). y.value) ys = cc in
    same_cons x y xs ys (fe32.path x y first) (same_values xs ys rest)

pub same_code : (c d : Code) → c.generator ≡ d.generator → c.target ≡ d.target
    → c.code_length ≡ d.code_length → c ≡ d
same_code c d e f g = λ i. record { generator = e i; target = f i; code_length = g i }

pub codex32_is_packed : codex32 ≡ code_of (λ (x : ℕ). x) 93 13 words 0x10ce0795c2fd1e62a
codex32_is_packed = same_code _ _ (same_values _ _ refl) (same_values _ _ refl) refl
