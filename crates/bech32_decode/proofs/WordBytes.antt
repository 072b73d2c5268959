-- The five bytes of a word.
use Rattle.std.proofs.Common.{◌≡◌, ◌∙◌, ◌+◌, ◌*◌, ◌/◌, ◌%◌, ◌^◌, ℕ, [], ◌∷◌, ap, refl, arith}
use Rattle.bech32_gf.specs.Fe32.{element}
use Rattle.bech32_bits.specs.Bits.{to_bytes}
use Rattle.bech32_bits.proofs.WholeGroups.{bytes_of_word}
use Rattle.bech32_checksum.specs.Word.{word_elements}

pub word_bytes : (n : ℕ) → to_bytes (word_elements n)
    ≡ n / 2 ^ 32 % 256 ∷ n / 2 ^ 24 % 256 ∷ n / 2 ^ 16 % 256 ∷ n / 2 ^ 8 % 256 ∷ n % 256 ∷ []
word_bytes n =
    let high : n / 2 ^ 20 % 2 ^ 20 ≡ ((n / 2 ^ 35 % 32 * 32 + n / 2 ^ 30 % 32) * 32 + n / 2 ^ 25 % 32) * 32 + n / 2 ^ 20 % 32 = omega arith in
    let low : n % 2 ^ 20 ≡ ((n / 2 ^ 15 % 32 * 32 + n / 2 ^ 10 % 32) * 32 + n / 2 ^ 5 % 32) * 32 + n / 2 ^ 0 % 32 = omega arith in
    let m : ℕ = n / 2 ^ 20 % 2 ^ 20 * 2 ^ 20 + n % 2 ^ 20 in
    let a : m / 2 ^ 32 % 256 ≡ n / 2 ^ 32 % 256 = omega arith in
    let b : m / 2 ^ 24 % 256 ≡ n / 2 ^ 24 % 256 = omega arith in
    let c : m / 2 ^ 16 % 256 ≡ n / 2 ^ 16 % 256 = omega arith in
    let d : m / 2 ^ 8 % 256 ≡ n / 2 ^ 8 % 256 = omega arith in
    let e : m / 2 ^ 0 % 256 ≡ n % 256 = omega arith in
    bytes_of_word (element (n / 2 ^ 35)) (element (n / 2 ^ 30)) (element (n / 2 ^ 25)) (element (n / 2 ^ 20))
    (element (n / 2 ^ 15)) (element (n / 2 ^ 10)) (element (n / 2 ^ 5)) (element (n / 2 ^ 0))
    (n / 2 ^ 20 % 2 ^ 20) (n % 2 ^ 20) m high low (omega arith) refl
    ∙ ap (λ (x : ℕ). x ∷ m / 2 ^ 24 % 256 ∷ m / 2 ^ 16 % 256 ∷ m / 2 ^ 8 % 256 ∷ m / 2 ^ 0 % 256 ∷ []) a
    ∙ ap (λ (x : ℕ). n / 2 ^ 32 % 256 ∷ x ∷ m / 2 ^ 16 % 256 ∷ m / 2 ^ 8 % 256 ∷ m / 2 ^ 0 % 256 ∷ []) b
    ∙ ap (λ (x : ℕ). n / 2 ^ 32 % 256 ∷ n / 2 ^ 24 % 256 ∷ x ∷ m / 2 ^ 8 % 256 ∷ m / 2 ^ 0 % 256 ∷ []) c
    ∙ ap (λ (x : ℕ). n / 2 ^ 32 % 256 ∷ n / 2 ^ 24 % 256 ∷ n / 2 ^ 16 % 256 ∷ x ∷ m / 2 ^ 0 % 256 ∷ []) d
    ∙ ap (λ (x : ℕ). n / 2 ^ 32 % 256 ∷ n / 2 ^ 24 % 256 ∷ n / 2 ^ 16 % 256 ∷ n / 2 ^ 8 % 256 ∷ x ∷ []) e
