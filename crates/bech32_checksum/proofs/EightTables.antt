-- The tables of eight elements more, computed over all elements.
use Rattle.std.proofs.Common.{◌≡◌, ◌<◌, ◌+◌, ◌*◌, ◌/◌, ◌%◌, ◌^◌, ◌==◌, ℕ, get_or, refl, sym, ap, ◌∙◌, arith, bit_xor}
use Rattle.std.specs.Int.Bits.{xor_disjoint, and_shifted}
use Rattle.std.proofs.lemmas.Bool.{eqb-true}
use Rattle.bech32_gf.specs.laws.Below.{each_below-at}
use Rattle.bech32_checksum.specs.declared.checksums.eights.TheConstants.{TIMES_X7, TIMES_X8, TIMES_X9, TIMES_X10, TIMES_X11, TIMES_X12, TIMES_X13}
use Rattle.bech32_checksum.specs.declared.checksums.products.TheConstants.{PRODUCTS}
use Rattle.bech32_checksum.proofs.TimesX.{times_x6, times_x8, times_x8-add}

-- an element in the lowest place, and in the one above it, times x^6
pub times_x6-lowest : (v : ℕ) → v < 32 → times_x6 v ≡ get_or PRODUCTS v 0
times_x6-lowest v h = eqb-true _ _ (each_below-at 32 (λ i. times_x6 i == get_or PRODUCTS i 0) refl v h)

pub times_x6-next : (v : ℕ) → v < 32 → times_x6 (v * 32) ≡ get_or TIMES_X7 v 0
times_x6-next v h = eqb-true _ _ (each_below-at 32 (λ i. times_x6 (i * 32) == get_or TIMES_X7 i 0) refl v h)

-- an element in each place, times x^8
entry₀ : (v : ℕ) → v < 32 → times_x8 v ≡ get_or TIMES_X8 v 0
entry₀ v h = eqb-true _ _ (each_below-at 32 (λ i. times_x8 i == get_or TIMES_X8 i 0) refl v h)

entry₁ : (v : ℕ) → v < 32 → times_x8 (v * 2 ^ 5) ≡ get_or TIMES_X9 v 0
entry₁ v h = eqb-true _ _ (each_below-at 32 (λ i. times_x8 (i * 2 ^ 5) == get_or TIMES_X9 i 0) refl v h)

entry₂ : (v : ℕ) → v < 32 → times_x8 (v * 2 ^ 10) ≡ get_or TIMES_X10 v 0
entry₂ v h = eqb-true _ _ (each_below-at 32 (λ i. times_x8 (i * 2 ^ 10) == get_or TIMES_X10 i 0) refl v h)

entry₃ : (v : ℕ) → v < 32 → times_x8 (v * 2 ^ 15) ≡ get_or TIMES_X11 v 0
entry₃ v h = eqb-true _ _ (each_below-at 32 (λ i. times_x8 (i * 2 ^ 15) == get_or TIMES_X11 i 0) refl v h)

entry₄ : (v : ℕ) → v < 32 → times_x8 (v * 2 ^ 20) ≡ get_or TIMES_X12 v 0
entry₄ v h = eqb-true _ _ (each_below-at 32 (λ i. times_x8 (i * 2 ^ 20) == get_or TIMES_X12 i 0) refl v h)

entry₅ : (v : ℕ) → v < 32 → times_x8 (v * 2 ^ 25) ≡ get_or TIMES_X13 v 0
entry₅ v h = eqb-true _ _ (each_below-at 32 (λ i. times_x8 (i * 2 ^ 25) == get_or TIMES_X13 i 0) refl v h)

-- a row from a place on is what it has above that place, and the coefficient there
part₄ : (c : ℕ) → c / 2 ^ 20 * 2 ^ 20 ≡ bit_xor (c / 2 ^ 25 * 2 ^ 25) (c / 2 ^ 20 % 32 * 2 ^ 20)
part₄ c =
    let same : c / 2 ^ 20 * 2 ^ 20 ≡ c / 2 ^ 25 * 2 ^ 25 + c / 2 ^ 20 % 32 * 2 ^ 20 = omega arith in
    same ∙ sym (xor_disjoint _ _ (and_shifted (c / 2 ^ 25) 25 (c / 2 ^ 20 % 32 * 2 ^ 20) (omega arith)))

part₃ : (c : ℕ) → c / 2 ^ 15 * 2 ^ 15 ≡ bit_xor (c / 2 ^ 20 * 2 ^ 20) (c / 2 ^ 15 % 32 * 2 ^ 15)
part₃ c =
    let same : c / 2 ^ 15 * 2 ^ 15 ≡ c / 2 ^ 20 * 2 ^ 20 + c / 2 ^ 15 % 32 * 2 ^ 15 = omega arith in
    same ∙ sym (xor_disjoint _ _ (and_shifted (c / 2 ^ 20) 20 (c / 2 ^ 15 % 32 * 2 ^ 15) (omega arith)))

part₂ : (c : ℕ) → c / 2 ^ 10 * 2 ^ 10 ≡ bit_xor (c / 2 ^ 15 * 2 ^ 15) (c / 2 ^ 10 % 32 * 2 ^ 10)
part₂ c =
    let same : c / 2 ^ 10 * 2 ^ 10 ≡ c / 2 ^ 15 * 2 ^ 15 + c / 2 ^ 10 % 32 * 2 ^ 10 = omega arith in
    same ∙ sym (xor_disjoint _ _ (and_shifted (c / 2 ^ 15) 15 (c / 2 ^ 10 % 32 * 2 ^ 10) (omega arith)))

part₁ : (c : ℕ) → c / 2 ^ 5 * 2 ^ 5 ≡ bit_xor (c / 2 ^ 10 * 2 ^ 10) (c / 2 ^ 5 % 32 * 2 ^ 5)
part₁ c =
    let same : c / 2 ^ 5 * 2 ^ 5 ≡ c / 2 ^ 10 * 2 ^ 10 + c / 2 ^ 5 % 32 * 2 ^ 5 = omega arith in
    same ∙ sym (xor_disjoint _ _ (and_shifted (c / 2 ^ 10) 10 (c / 2 ^ 5 % 32 * 2 ^ 5) (omega arith)))

part₀ : (c : ℕ) → c ≡ bit_xor (c / 2 ^ 5 * 2 ^ 5) (c % 32)
part₀ c =
    let same : c ≡ c / 2 ^ 5 * 2 ^ 5 + c % 32 = omega arith in
    same ∙ sym (xor_disjoint _ _ (and_shifted (c / 2 ^ 5) 5 (c % 32) (omega arith)))

more : (whole high low : ℕ) (sum entry : ℕ) → whole ≡ bit_xor high low → high < 2 ^ 30 → low < 2 ^ 30
    → times_x8 high ≡ sum → times_x8 low ≡ entry → times_x8 whole ≡ bit_xor sum entry
more whole high low sum entry parts h l s e =
    ap times_x8 parts ∙ (times_x8-add high low h l ∙ (ap (λ m. bit_xor m (times_x8 low)) s ∙ ap (bit_xor sum) e))

-- a row times x^8 is the sum of what the tables have of its coefficients
pub tables_are : (c : ℕ) → c < 2 ^ 30 → times_x8 c ≡ bit_xor (bit_xor (bit_xor (bit_xor (bit_xor
    (get_or TIMES_X13 (c / 2 ^ 25) 0) (get_or TIMES_X12 (c / 2 ^ 20 % 32) 0))
    (get_or TIMES_X11 (c / 2 ^ 15 % 32) 0)) (get_or TIMES_X10 (c / 2 ^ 10 % 32) 0))
    (get_or TIMES_X9 (c / 2 ^ 5 % 32) 0)) (get_or TIMES_X8 (c % 32) 0)
tables_are c h =
    let b5 : c / 2 ^ 25 < 32 = omega arith in
    let b4 : c / 2 ^ 20 % 32 < 32 = omega arith in
    let b3 : c / 2 ^ 15 % 32 < 32 = omega arith in
    let b2 : c / 2 ^ 10 % 32 < 32 = omega arith in
    let b1 : c / 2 ^ 5 % 32 < 32 = omega arith in
    let b0 : c % 32 < 32 = omega arith in
    let h5 : c / 2 ^ 25 * 2 ^ 25 < 2 ^ 30 = omega arith in
    let h4 : c / 2 ^ 20 * 2 ^ 20 < 2 ^ 30 = omega arith in
    let h3 : c / 2 ^ 15 * 2 ^ 15 < 2 ^ 30 = omega arith in
    let h2 : c / 2 ^ 10 * 2 ^ 10 < 2 ^ 30 = omega arith in
    let h1 : c / 2 ^ 5 * 2 ^ 5 < 2 ^ 30 = omega arith in
    let l4 : c / 2 ^ 20 % 32 * 2 ^ 20 < 2 ^ 30 = omega arith in
    let l3 : c / 2 ^ 15 % 32 * 2 ^ 15 < 2 ^ 30 = omega arith in
    let l2 : c / 2 ^ 10 % 32 * 2 ^ 10 < 2 ^ 30 = omega arith in
    let l1 : c / 2 ^ 5 % 32 * 2 ^ 5 < 2 ^ 30 = omega arith in
    let l0 : c % 32 < 2 ^ 30 = omega arith in
    let s5 = entry₅ (c / 2 ^ 25) b5 in
    let s4 = more _ _ _ _ _ (part₄ c) h5 l4 s5 (entry₄ (c / 2 ^ 20 % 32) b4) in
    let s3 = more _ _ _ _ _ (part₃ c) h4 l3 s4 (entry₃ (c / 2 ^ 15 % 32) b3) in
    let s2 = more _ _ _ _ _ (part₂ c) h3 l2 s3 (entry₂ (c / 2 ^ 10 % 32) b2) in
    let s1 = more _ _ _ _ _ (part₁ c) h2 l1 s2 (entry₁ (c / 2 ^ 5 % 32) b1) in
    more _ _ _ _ _ (part₀ c) h1 l0 s1 (entry₀ (c % 32) b0)
