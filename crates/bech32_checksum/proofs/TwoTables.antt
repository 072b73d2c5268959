-- The tables of two elements, computed over all pairs, and what they add up to.
use Rattle.std.proofs.Common.{◌≡◌, ◌<◌, ◌+◌, ◌*◌, ◌/◌, ◌%◌, ◌^◌, ◌==◌, ℕ, [], ◌∷◌, get_or, refl, sym, ap, subst, ◌∙◌, arith, bit_xor}
use Rattle.std.specs.Int.Bits.{xor_assoc, xor_disjoint, and_shifted}
use Rattle.std.proofs.lemmas.Bool.{eqb-true}
use Rattle.std.proofs.lemmas.Nat.{xor_lt}
use Rattle.bech32_gf.specs.Fe32 as fe32
use Rattle.bech32_gf.specs.Fe32.{element}
use Rattle.bech32_poly.specs.Remainder.{IsRemainder}
use Rattle.bech32_checksum.specs.Packed.{digits}
use Rattle.bech32_gf.specs.laws.Below.{each_below-at}
use Rattle.bech32_checksum.specs.Code.{bech32, IsResidueAfter}
use Rattle.bech32_checksum.proofs.TimesX.{times_x, times_x-add, times_x-lt, times_x-short, times_x6, times_x6-add, times_x6-lt, times_x8, times_x8-add, joined}
use Rattle.bech32_checksum.proofs.EightSteps.{eight_after, row_of_six, six_more, two_more}
use Rattle.bech32_checksum.specs.Word.{row_elements, two_elements, word_elements}
use Rattle.bech32_checksum.specs.declared.checksums.twos.TheConstants.{TWOS}

entry₆ : (v : ℕ) → v < 1024 → times_x6 v ≡ get_or (get_or TWOS 0 []) v 0
entry₆ v h = eqb-true _ _ (each_below-at 1024 (λ i. times_x6 i == get_or (get_or TWOS 0 []) i 0) refl v h)

entry₈ : (v : ℕ) → v < 1024 → times_x8 v ≡ get_or (get_or TWOS 1 []) v 0
entry₈ v h = eqb-true _ _ (each_below-at 1024 (λ i. times_x8 i == get_or (get_or TWOS 1 []) i 0) refl v h)

entry₁₀ : (v : ℕ) → v < 1024 → times_x8 (v * 2 ^ 10) ≡ get_or (get_or TWOS 2 []) v 0
entry₁₀ v h = eqb-true _ _ (each_below-at 1024 (λ i. times_x8 (i * 2 ^ 10) == get_or (get_or TWOS 2 []) i 0) refl v h)

entry₁₂ : (v : ℕ) → v < 1024 → times_x8 (v * 2 ^ 20) ≡ get_or (get_or TWOS 3 []) v 0
entry₁₂ v h = eqb-true _ _ (each_below-at 1024 (λ i. times_x8 (i * 2 ^ 20) == get_or (get_or TWOS 3 []) i 0) refl v h)

-- a row is its highest pair, the pair in the middle, and the lowest pair
part₁ : (c : ℕ) → c / 2 ^ 10 * 2 ^ 10 ≡ bit_xor (c / 2 ^ 20 * 2 ^ 20) (c / 2 ^ 10 % 1024 * 2 ^ 10)
part₁ c =
    let same : c / 2 ^ 10 * 2 ^ 10 ≡ c / 2 ^ 20 * 2 ^ 20 + c / 2 ^ 10 % 1024 * 2 ^ 10 = omega arith in
    same ∙ sym (xor_disjoint _ _ (and_shifted (c / 2 ^ 20) 20 (c / 2 ^ 10 % 1024 * 2 ^ 10) (omega arith)))

part₀ : (c : ℕ) → c ≡ bit_xor (c / 2 ^ 10 * 2 ^ 10) (c % 1024)
part₀ c =
    let same : c ≡ c / 2 ^ 10 * 2 ^ 10 + c % 1024 = omega arith in
    same ∙ sym (xor_disjoint _ _ (and_shifted (c / 2 ^ 10) 10 (c % 1024) (omega arith)))

more : (whole high low : ℕ) (sum entry : ℕ) → whole ≡ bit_xor high low → high < 2 ^ 30 → low < 2 ^ 30
    → times_x8 high ≡ sum → times_x8 low ≡ entry → times_x8 whole ≡ bit_xor sum entry
more whole high low sum entry parts h l s e =
    ap times_x8 parts ∙ (times_x8-add high low h l ∙ (ap (λ m. bit_xor m (times_x8 low)) s ∙ ap (bit_xor sum) e))

-- a row times x^8 is the sum of what the tables have of its pairs
tables_are : (c : ℕ) → c < 2 ^ 30 → times_x8 c
    ≡ bit_xor (bit_xor (get_or (get_or TWOS 3 []) (c / 2 ^ 20) 0) (get_or (get_or TWOS 2 []) (c / 2 ^ 10 % 1024) 0)) (get_or (get_or TWOS 1 []) (c % 1024) 0)
tables_are c h =
    let b2 : c / 2 ^ 20 < 1024 = omega arith in
    let b1 : c / 2 ^ 10 % 1024 < 1024 = omega arith in
    let b0 : c % 1024 < 1024 = omega arith in
    let h2 : c / 2 ^ 20 * 2 ^ 20 < 2 ^ 30 = omega arith in
    let h1 : c / 2 ^ 10 * 2 ^ 10 < 2 ^ 30 = omega arith in
    let l1 : c / 2 ^ 10 % 1024 * 2 ^ 10 < 2 ^ 30 = omega arith in
    let l0 : c % 1024 < 2 ^ 30 = omega arith in
    let s2 = entry₁₂ (c / 2 ^ 20) b2 in
    let s1 = more _ _ _ _ _ (part₁ c) h2 l1 s2 (entry₁₀ (c / 2 ^ 10 % 1024) b1) in
    more _ _ _ _ _ (part₀ c) h1 l0 s1 (entry₈ (c % 1024) b0)

-- what the tables have of a remainder and of a word is the remainder after the word's elements
pub word_after : (r n : ℕ) → r < 2 ^ 30 → n < 2 ^ 40
    → (bit_xor (bit_xor (bit_xor (bit_xor (get_or (get_or TWOS 3 []) (r / 2 ^ 20) 0) (get_or (get_or TWOS 2 []) (r / 2 ^ 10 % 1024) 0))
    (get_or (get_or TWOS 1 []) (r % 1024) 0)) (get_or (get_or TWOS 0 []) (n / 2 ^ 30) 0)) (n % 2 ^ 30) < 2 ^ 30)
    × IsResidueAfter (λ (k : ℕ). k) bech32 r (word_elements n)
    (bit_xor (bit_xor (bit_xor (bit_xor (get_or (get_or TWOS 3 []) (r / 2 ^ 20) 0) (get_or (get_or TWOS 2 []) (r / 2 ^ 10 % 1024) 0))
    (get_or (get_or TWOS 1 []) (r % 1024) 0)) (get_or (get_or TWOS 0 []) (n / 2 ^ 30) 0)) (n % 2 ^ 30))
word_after r n hr hn =
    let t : ℕ = bit_xor (bit_xor (get_or (get_or TWOS 3 []) (r / 2 ^ 20) 0) (get_or (get_or TWOS 2 []) (r / 2 ^ 10 % 1024) 0)) (get_or (get_or TWOS 1 []) (r % 1024) 0) in
    let a : ℕ = n / 2 ^ 35 % 32 in
    let b : ℕ = n / 2 ^ 30 % 32 in
    let high : n / 2 ^ 30 < 1024 = omega arith in
    let pair : n / 2 ^ 30 ≡ a * 32 + b = omega arith in
    let row : n % 2 ^ 30 ≡ row_of_six (n / 2 ^ 25 % 32) (n / 2 ^ 20 % 32) (n / 2 ^ 15 % 32) (n / 2 ^ 10 % 32) (n / 2 ^ 5 % 32) (n / 2 ^ 0 % 32) = omega arith in
    let first : times_x6 (a * 32 + b) ≡ bit_xor (times_x6 (a * 32)) (times_x6 b) =
    ap times_x6 (joined a b (omega arith)) ∙ times_x6-add (a * 32) b (omega arith) (omega arith) in
    let six : get_or (get_or TWOS 0 []) (n / 2 ^ 30) 0 ≡ bit_xor (times_x6 (a * 32)) (times_x6 b) = sym (entry₆ (n / 2 ^ 30) high) ∙ ap times_x6 pair ∙ first in
    let same : bit_xor (bit_xor t (times_x6 (a * 32))) (times_x6 b) ≡ bit_xor t (get_or (get_or TWOS 0 []) (n / 2 ^ 30) 0) =
    xor_assoc t (times_x6 (a * 32)) (times_x6 b) ∙ ap (bit_xor t) (sym six) in
    let all = eight_after r (word_elements n) (element (n / 2 ^ 35)) (element (n / 2 ^ 30)) (element (n / 2 ^ 25)) (element (n / 2 ^ 20))
    (element (n / 2 ^ 15)) (element (n / 2 ^ 10)) (element (n / 2 ^ 5)) (element (n / 2 ^ 0))
    t (times_x6 (a * 32)) (times_x6 b) (n % 2 ^ 30) refl hr (sym (tables_are r hr)) refl refl row in
    subst (λ (m : ℕ). (bit_xor m (n % 2 ^ 30) < 2 ^ 30) × IsResidueAfter (λ (k : ℕ). k) bech32 r (word_elements n) (bit_xor m (n % 2 ^ 30))) same all

-- ---- six elements

six₁ : (v : ℕ) → v < 1024 → times_x6 (v * 2 ^ 10) ≡ get_or (get_or TWOS 1 []) v 0
six₁ v h = eqb-true _ _ (each_below-at 1024 (λ i. times_x6 (i * 2 ^ 10) == get_or (get_or TWOS 1 []) i 0) refl v h)

six₂ : (v : ℕ) → v < 1024 → times_x6 (v * 2 ^ 20) ≡ get_or (get_or TWOS 2 []) v 0
six₂ v h = eqb-true _ _ (each_below-at 1024 (λ i. times_x6 (i * 2 ^ 20) == get_or (get_or TWOS 2 []) i 0) refl v h)

one_more : (whole high low : ℕ) (sum entry : ℕ) → whole ≡ bit_xor high low → high < 2 ^ 30 → low < 2 ^ 30
    → times_x6 high ≡ sum → times_x6 low ≡ entry → times_x6 whole ≡ bit_xor sum entry
one_more whole high low sum entry parts h l s e =
    ap times_x6 parts ∙ (times_x6-add high low h l ∙ (ap (λ m. bit_xor m (times_x6 low)) s ∙ ap (bit_xor sum) e))

sixes_are : (c : ℕ) → c < 2 ^ 30 → times_x6 c
    ≡ bit_xor (bit_xor (get_or (get_or TWOS 2 []) (c / 2 ^ 20) 0) (get_or (get_or TWOS 1 []) (c / 2 ^ 10 % 1024) 0)) (get_or (get_or TWOS 0 []) (c % 1024) 0)
sixes_are c h =
    let b2 : c / 2 ^ 20 < 1024 = omega arith in
    let b1 : c / 2 ^ 10 % 1024 < 1024 = omega arith in
    let b0 : c % 1024 < 1024 = omega arith in
    let h2 : c / 2 ^ 20 * 2 ^ 20 < 2 ^ 30 = omega arith in
    let h1 : c / 2 ^ 10 * 2 ^ 10 < 2 ^ 30 = omega arith in
    let l1 : c / 2 ^ 10 % 1024 * 2 ^ 10 < 2 ^ 30 = omega arith in
    let l0 : c % 1024 < 2 ^ 30 = omega arith in
    let s2 = six₂ (c / 2 ^ 20) b2 in
    let s1 = one_more _ _ _ _ _ (part₁ c) h2 l1 s2 (six₁ (c / 2 ^ 10 % 1024) b1) in
    one_more _ _ _ _ _ (part₀ c) h1 l0 s1 (entry₆ (c % 1024) b0)

-- what the tables have of a remainder, and a row, add up to the remainder after the row's elements
pub row_after : (r n : ℕ) → r < 2 ^ 30 → n < 2 ^ 30
    → (bit_xor (bit_xor (bit_xor (get_or (get_or TWOS 2 []) (r / 2 ^ 20) 0) (get_or (get_or TWOS 1 []) (r / 2 ^ 10 % 1024) 0)) (get_or (get_or TWOS 0 []) (r % 1024) 0)) n < 2 ^ 30)
    × IsResidueAfter (λ (k : ℕ). k) bech32 r (row_elements n)
    (bit_xor (bit_xor (bit_xor (get_or (get_or TWOS 2 []) (r / 2 ^ 20) 0) (get_or (get_or TWOS 1 []) (r / 2 ^ 10 % 1024) 0)) (get_or (get_or TWOS 0 []) (r % 1024) 0)) n)
row_after r n hr hn =
    let sum = sixes_are r hr in
    let row : row_of_six (n / 2 ^ 25 % 32) (n / 2 ^ 20 % 32) (n / 2 ^ 15 % 32) (n / 2 ^ 10 % 32) (n / 2 ^ 5 % 32) (n / 2 ^ 0 % 32) ≡ n = omega arith in
    let same = ap (λ (m : ℕ). bit_xor (times_x6 r) m) row ∙ ap (λ (m : ℕ). bit_xor m n) sum in (
      subst (λ (m : ℕ). bit_xor m n < 2 ^ 30) sum (xor_lt 30 _ _ (times_x6-lt r hr) hn),
      λ p held. subst (λ (m : ℕ). IsRemainder fe32.ops bech32.generator
          (element (n / 2 ^ 0) ∷ element (n / 2 ^ 5) ∷ element (n / 2 ^ 10) ∷ element (n / 2 ^ 15) ∷ element (n / 2 ^ 20) ∷ element (n / 2 ^ 25) ∷ p) (digits 6 m)) same
          (six_more p r (element (n / 2 ^ 25)) (element (n / 2 ^ 20)) (element (n / 2 ^ 15)) (element (n / 2 ^ 10)) (element (n / 2 ^ 5)) (element (n / 2 ^ 0)) hr held),
    )

-- ---- two elements

two₂ : (v : ℕ) → v < 1024 → times_x (times_x (v * 2 ^ 20)) ≡ get_or (get_or TWOS 0 []) v 0
two₂ v h = eqb-true _ _ (each_below-at 1024 (λ i. times_x (times_x (i * 2 ^ 20)) == get_or (get_or TWOS 0 []) i 0) refl v h)

-- of four coefficients nothing falls out
short : (c : ℕ) → c < 2 ^ 20 → times_x (times_x c) ≡ c * 2 ^ 10
short c h =
    let twice : c * 32 * 32 ≡ c * 2 ^ 10 = omega arith in
    ap times_x (times_x-short c (omega arith)) ∙ (times_x-short (c * 32) (omega arith) ∙ twice)

-- a row times x^2 is what the table has of its highest pair, and its other four coefficients two places higher
twos_are : (c : ℕ) → c < 2 ^ 30 → times_x (times_x c) ≡ bit_xor (get_or (get_or TWOS 0 []) (c / 2 ^ 20) 0) (c % 2 ^ 20 * 2 ^ 10)
twos_are c h =
    let high : c / 2 ^ 20 * 2 ^ 20 < 2 ^ 30 = omega arith in
    let low : c % 2 ^ 20 < 2 ^ 30 = omega arith in
    let same : c ≡ c / 2 ^ 20 * 2 ^ 20 + c % 2 ^ 20 = omega arith in
    let parts : c ≡ bit_xor (c / 2 ^ 20 * 2 ^ 20) (c % 2 ^ 20) =
    same ∙ sym (xor_disjoint _ _ (and_shifted (c / 2 ^ 20) 20 (c % 2 ^ 20) (omega arith))) in
    ap (λ m. times_x (times_x m)) parts
    ∙ (ap times_x (times_x-add _ _ high low)
    ∙ (times_x-add _ _ (times_x-lt _ high) (times_x-lt _ low)
    ∙ (ap (λ m. bit_xor m (times_x (times_x (c % 2 ^ 20)))) (two₂ (c / 2 ^ 20) (omega arith))
    ∙ ap (bit_xor (get_or (get_or TWOS 0 []) (c / 2 ^ 20) 0)) (short (c % 2 ^ 20) (omega arith)))))

-- what the table has of a remainder's highest pair, its other coefficients, and two elements add up to the remainder
-- after these
pub two_after : (r n : ℕ) → r < 2 ^ 30 → n < 2 ^ 10
    → (bit_xor (bit_xor (get_or (get_or TWOS 0 []) (r / 2 ^ 20) 0) (r % 2 ^ 20 * 2 ^ 10)) n < 2 ^ 30)
    × IsResidueAfter (λ (k : ℕ). k) bech32 r (two_elements n)
    (bit_xor (bit_xor (get_or (get_or TWOS 0 []) (r / 2 ^ 20) 0) (r % 2 ^ 20 * 2 ^ 10)) n)
two_after r n hr hn =
    let sum = twos_are r hr in
    let row : n / 2 ^ 5 % 32 * 32 + n / 2 ^ 0 % 32 ≡ n = omega arith in
    let same = ap (λ (m : ℕ). bit_xor (times_x (times_x r)) m) row ∙ ap (λ (m : ℕ). bit_xor m n) sum in (
      subst (λ (m : ℕ). bit_xor m n < 2 ^ 30) sum (xor_lt 30 _ _ (times_x-lt _ (times_x-lt r hr)) (omega arith)),
      λ p held. subst (λ (m : ℕ). IsRemainder fe32.ops bech32.generator (element (n / 2 ^ 0) ∷ element (n / 2 ^ 5) ∷ p) (digits 6 m)) same
          (two_more p r (element (n / 2 ^ 5)) (element (n / 2 ^ 0)) hr held),
    )
