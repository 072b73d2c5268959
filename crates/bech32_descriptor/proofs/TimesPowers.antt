-- The tables of powers of x, computed over all elements, and what they add up to.
use Rattle.std.specs.Prelude.{nat_lt}
use Rattle.std.proofs.Common.{◌≡◌, ◌<◌, ◌+◌, ◌*◌, ◌/◌, ◌%◌, ◌^◌, ◌==◌, ℕ, zero, suc, List, [], ◌∷◌, get_or, refl, sym, ap, subst, ◌∙◌, arith, bit_xor}
use Rattle.std.specs.Int.Bits.{xor_assoc, xor_disjoint, and_shifted, xor_zero_r}
use Rattle.std.proofs.lemmas.Nat.{xor_shr, xor_mod, xor_block, xor_lt, xor_comm}
use Rattle.std.proofs.lemmas.Bool.{eqb-true, ltb-true}
use Rattle.bech32_gf.specs.Fe32 as fe32
use Rattle.bech32_gf.specs.Fe32.{element}
use Rattle.bech32_gf.specs.declared.gf32.Fe32.{Fe32}
use Rattle.bech32_gf.specs.Gf32.{product}
use Rattle.bech32_gf.specs.laws.Below.{each_below, each_below-at, each_below-at₂}
use Rattle.bech32_poly.specs.Polynomial.{scale}
use Rattle.bech32_poly.specs.Remainder.{IsRemainder}
use Rattle.bech32_checksum.specs.Code.{IsResidueAfter}
use Rattle.bech32_checksum.specs.Packed.{digit_of, digits, sum_of_words}
use Rattle.bech32_checksum.specs.Word.{word_elements}
use Rattle.bech32_checksum.specs.laws.PackedLaws.{xor_digits}
use Rattle.bech32_checksum.proofs.Input.{input_result}
use Rattle.bech32_checksum.proofs.Products.{tabulated}
use Rattle.bech32_checksum.proofs.TimesX.{joined}
use Rattle.bech32_descriptor.specs.Code.{descriptor}
use Rattle.bech32_descriptor.specs.declared.powers.TheConstants.{POWERS}
use Rattle.bech32_descriptor.specs.laws.CodeLaws.{words}

-- ---- the generator's lower coefficients times an element, packed

abbrev pub entry : ℕ → ℕ → ℕ
entry k v = get_or (get_or POWERS k []) v 0

-- the coefficient of the generator at a place
abbrev at : ℕ → Fe32
at n = get_or descriptor.generator n fe32.zero

value_at : (v n : ℕ) → v < 32 → n < 8 → entry 0 v / 2 ^ (5 * n) % 32 ≡ product v (at n).value
unfolding product
value_at v n hv hn =
    eqb-true _ _
    (each_below-at 8 (λ n. entry 0 v / 2 ^ (5 * n) % 32 == product v (at n).value)
    (each_below-at 32 (λ v. each_below 8 (λ n. entry 0 v / 2 ^ (5 * n) % 32 == product v (at n).value)) refl v hv) n hn)

pub product_is : (e : Fe32) → digits 8 (entry 0 e.value) ≡ scale fe32.ops e descriptor.generator
product_is e =
    tabulated 8 (digit_of (entry 0 e.value)) (λ n. fe32.mul e (at n))
    (λ n below. fe32.path _ _ (value_at e.value n e.in_field below))

pub product_clear : (v : ℕ) → v < 32 → entry 0 v < 2 ^ (5 * 8)
product_clear v h = ltb-true _ _ (each_below-at 32 (λ v. nat_lt (entry 0 v) (2 ^ (5 * 8))) refl v h)

pub product_sum : (v : ℕ) → v < 32 → entry 0 v ≡ sum_of_words (λ i. get_or words i 0) 5 v
product_sum v h = eqb-true _ _ (each_below-at 32 (λ v. entry 0 v == sum_of_words (λ i. get_or words i 0) 5 v) refl v h)

-- the same under a name that does not compute
multiple : ℕ → ℕ
multiple v = entry 0 v

multiple_is : (e : Fe32) → digits 8 (multiple e.value) ≡ scale fe32.ops e descriptor.generator
unfolding multiple
multiple_is e = product_is e

multiple-lt : (v : ℕ) → v < 32 → multiple v < 2 ^ 40
unfolding multiple
multiple-lt v h = product_clear v h

multiple_none : multiple 0 ≡ 0
unfolding multiple
multiple_none = refl

multiple_add : (u v : ℕ) → u < 32 → v < 32 → multiple (bit_xor u v) ≡ bit_xor (multiple u) (multiple v)
unfolding multiple
multiple_add u v hu hv =
    eqb-true _ _ (each_below-at₂ 32 (λ i j. entry 0 (bit_xor i j) == bit_xor (entry 0 i) (entry 0 j)) refl u v hu hv)

-- ---- a row times x, modulo the generator

times_x : ℕ → ℕ
times_x row = bit_xor (row % 2 ^ 35 * 32) (multiple (row / 2 ^ 35))

swap : (p q r s : ℕ) → bit_xor (bit_xor p q) (bit_xor r s) ≡ bit_xor (bit_xor p r) (bit_xor q s)
swap p q r s =
    xor_assoc p q (bit_xor r s)
    ∙ (ap (bit_xor p) (sym (xor_assoc q r s) ∙ (ap (λ m. bit_xor m s) (xor_comm q r) ∙ xor_assoc r q s))
    ∙ sym (xor_assoc p r (bit_xor q s)))

shl : (a b : ℕ) → bit_xor (a * 32) (b * 32) ≡ bit_xor a b * 32
shl a b =
    let h = xor_block 5 a b 0 0 (omega arith) (omega arith) in
    let e : a * 2 ^ 5 + 0 ≡ a * 32 = omega arith in
    let f : b * 2 ^ 5 + 0 ≡ b * 32 = omega arith in
    let g : bit_xor a b * 2 ^ 5 + bit_xor 0 0 ≡ bit_xor a b * 32 = omega arith in
    ap (λ m. bit_xor m (b * 32)) (sym e) ∙ (ap (λ m. bit_xor (a * 2 ^ 5 + 0) m) (sym f) ∙ (h ∙ g))

times_x-add : (a b : ℕ) → a < 2 ^ 40 → b < 2 ^ 40 → times_x (bit_xor a b) ≡ bit_xor (times_x a) (times_x b)
unfolding times_x
times_x-add a b ha hb =
    let low : bit_xor a b % 2 ^ 35 * 32 ≡ bit_xor (a % 2 ^ 35 * 32) (b % 2 ^ 35 * 32) =
    ap (λ m. m * 32) (xor_mod a b 35) ∙ sym (shl (a % 2 ^ 35) (b % 2 ^ 35)) in
    let high : multiple (bit_xor a b / 2 ^ 35) ≡ bit_xor (multiple (a / 2 ^ 35)) (multiple (b / 2 ^ 35)) =
    ap multiple (xor_shr a b 35) ∙ multiple_add (a / 2 ^ 35) (b / 2 ^ 35) (omega arith) (omega arith) in
    ap (λ m. bit_xor m (multiple (bit_xor a b / 2 ^ 35))) low
    ∙ (ap (λ m. bit_xor (bit_xor (a % 2 ^ 35 * 32) (b % 2 ^ 35 * 32)) m) high
    ∙ swap (a % 2 ^ 35 * 32) (b % 2 ^ 35 * 32) (multiple (a / 2 ^ 35)) (multiple (b / 2 ^ 35)))

times_x-lt : (a : ℕ) → a < 2 ^ 40 → times_x a < 2 ^ 40
unfolding times_x
times_x-lt a ha =
    let low : a % 2 ^ 35 * 32 < 2 ^ 40 = omega arith in
    xor_lt 40 _ _ low (multiple-lt (a / 2 ^ 35) (omega arith))

-- of a row with no highest coefficient nothing falls out
times_x-short : (a : ℕ) → a < 2 ^ 35 → times_x a ≡ a * 32
unfolding times_x
times_x-short a h =
    let low : a % 2 ^ 35 ≡ a = omega arith in
    let none : a / 2 ^ 35 ≡ 0 = omega arith in
    ap (λ m. bit_xor (m * 32) (multiple (a / 2 ^ 35))) low
    ∙ (ap (λ m. bit_xor (a * 32) m) (ap multiple none ∙ multiple_none) ∙ xor_zero_r (a * 32))

-- ---- a row times powers of x

power : ℕ → ℕ → ℕ
power zero row = row
power (suc n) row = power n (times_x row)

power-add : (n a b : ℕ) → a < 2 ^ 40 → b < 2 ^ 40 → power n (bit_xor a b) ≡ bit_xor (power n a) (power n b)
unfolding power
power-add zero a b ha hb = refl
power-add (suc n) a b ha hb = ap (power n) (times_x-add a b ha hb) ∙ power-add n (times_x a) (times_x b) (times_x-lt a ha) (times_x-lt b hb)

entry₀ : (v : ℕ) → v < 32 → power 8 v ≡ entry 0 v
unfolding power times_x multiple
entry₀ v h = eqb-true _ _ (each_below-at 32 (λ i. power 8 i == entry 0 i) refl v h)

entry₁ : (v : ℕ) → v < 32 → power 8 (v * 2 ^ 5) ≡ entry 1 v
unfolding power times_x multiple
entry₁ v h = eqb-true _ _ (each_below-at 32 (λ i. power 8 (i * 2 ^ 5) == entry 1 i) refl v h)

entry₂ : (v : ℕ) → v < 32 → power 8 (v * 2 ^ 10) ≡ entry 2 v
unfolding power times_x multiple
entry₂ v h = eqb-true _ _ (each_below-at 32 (λ i. power 8 (i * 2 ^ 10) == entry 2 i) refl v h)

entry₃ : (v : ℕ) → v < 32 → power 8 (v * 2 ^ 15) ≡ entry 3 v
unfolding power times_x multiple
entry₃ v h = eqb-true _ _ (each_below-at 32 (λ i. power 8 (i * 2 ^ 15) == entry 3 i) refl v h)

entry₄ : (v : ℕ) → v < 32 → power 8 (v * 2 ^ 20) ≡ entry 4 v
unfolding power times_x multiple
entry₄ v h = eqb-true _ _ (each_below-at 32 (λ i. power 8 (i * 2 ^ 20) == entry 4 i) refl v h)

entry₅ : (v : ℕ) → v < 32 → power 8 (v * 2 ^ 25) ≡ entry 5 v
unfolding power times_x multiple
entry₅ v h = eqb-true _ _ (each_below-at 32 (λ i. power 8 (i * 2 ^ 25) == entry 5 i) refl v h)

entry₆ : (v : ℕ) → v < 32 → power 8 (v * 2 ^ 30) ≡ entry 6 v
unfolding power times_x multiple
entry₆ v h = eqb-true _ _ (each_below-at 32 (λ i. power 8 (i * 2 ^ 30) == entry 6 i) refl v h)

entry₇ : (v : ℕ) → v < 32 → power 8 (v * 2 ^ 35) ≡ entry 7 v
unfolding power times_x multiple
entry₇ v h = eqb-true _ _ (each_below-at 32 (λ i. power 8 (i * 2 ^ 35) == entry 7 i) refl v h)

-- a row from a place on is what it has above that place, and the coefficient there
part : (c k : ℕ) → c / 2 ^ k * 2 ^ k ≡ c / 2 ^ k / 32 * 2 ^ (k + 5) + c / 2 ^ k % 32 * 2 ^ k → c / 2 ^ k % 32 * 2 ^ k < 2 ^ (k + 5)
    → c / 2 ^ k * 2 ^ k ≡ bit_xor (c / 2 ^ k / 32 * 2 ^ (k + 5)) (c / 2 ^ k % 32 * 2 ^ k)
part c k same low = same ∙ sym (xor_disjoint _ _ (and_shifted (c / 2 ^ k / 32) (k + 5) (c / 2 ^ k % 32 * 2 ^ k) low))

more : (whole high low sum next : ℕ) → whole ≡ bit_xor high low → high < 2 ^ 40 → low < 2 ^ 40
    → power 8 high ≡ sum → power 8 low ≡ next → power 8 whole ≡ bit_xor sum next
more whole high low sum next parts h l s e = ap (power 8) parts ∙ (power-add 8 high low h l ∙ (ap (λ m. bit_xor m (power 8 low)) s ∙ ap (bit_xor sum) e))

-- what the tables have of a row's coefficients
abbrev pub sum_of : ℕ → ℕ
sum_of c =
    bit_xor (bit_xor (bit_xor (bit_xor (bit_xor (bit_xor (bit_xor
    (entry 7 (c / 2 ^ 35)) (entry 6 (c / 2 ^ 30 % 32))) (entry 5 (c / 2 ^ 25 % 32))) (entry 4 (c / 2 ^ 20 % 32)))
    (entry 3 (c / 2 ^ 15 % 32))) (entry 2 (c / 2 ^ 10 % 32))) (entry 1 (c / 2 ^ 5 % 32))) (entry 0 (c % 32))

-- a row times x^8 is their sum
tables_are : (c : ℕ) → c < 2 ^ 40 → power 8 c ≡ sum_of c
tables_are c h =
    let q7 : c / 2 ^ 30 / 32 ≡ c / 2 ^ 35 = omega arith in
    let q6 : c / 2 ^ 25 / 32 ≡ c / 2 ^ 30 = omega arith in
    let q5 : c / 2 ^ 20 / 32 ≡ c / 2 ^ 25 = omega arith in
    let q4 : c / 2 ^ 15 / 32 ≡ c / 2 ^ 20 = omega arith in
    let q3 : c / 2 ^ 10 / 32 ≡ c / 2 ^ 15 = omega arith in
    let q2 : c / 2 ^ 5 / 32 ≡ c / 2 ^ 10 = omega arith in
    let p6 : c / 2 ^ 30 * 2 ^ 30 ≡ bit_xor (c / 2 ^ 35 * 2 ^ 35) (c / 2 ^ 30 % 32 * 2 ^ 30) = subst (λ (q : ℕ). c / 2 ^ 30 * 2 ^ 30 ≡ bit_xor (q * 2 ^ 35) (c / 2 ^ 30 % 32 * 2 ^ 30)) q7 (part c 30 (omega arith) (omega arith)) in
    let p5 : c / 2 ^ 25 * 2 ^ 25 ≡ bit_xor (c / 2 ^ 30 * 2 ^ 30) (c / 2 ^ 25 % 32 * 2 ^ 25) = subst (λ (q : ℕ). c / 2 ^ 25 * 2 ^ 25 ≡ bit_xor (q * 2 ^ 30) (c / 2 ^ 25 % 32 * 2 ^ 25)) q6 (part c 25 (omega arith) (omega arith)) in
    let p4 : c / 2 ^ 20 * 2 ^ 20 ≡ bit_xor (c / 2 ^ 25 * 2 ^ 25) (c / 2 ^ 20 % 32 * 2 ^ 20) = subst (λ (q : ℕ). c / 2 ^ 20 * 2 ^ 20 ≡ bit_xor (q * 2 ^ 25) (c / 2 ^ 20 % 32 * 2 ^ 20)) q5 (part c 20 (omega arith) (omega arith)) in
    let p3 : c / 2 ^ 15 * 2 ^ 15 ≡ bit_xor (c / 2 ^ 20 * 2 ^ 20) (c / 2 ^ 15 % 32 * 2 ^ 15) = subst (λ (q : ℕ). c / 2 ^ 15 * 2 ^ 15 ≡ bit_xor (q * 2 ^ 20) (c / 2 ^ 15 % 32 * 2 ^ 15)) q4 (part c 15 (omega arith) (omega arith)) in
    let p2 : c / 2 ^ 10 * 2 ^ 10 ≡ bit_xor (c / 2 ^ 15 * 2 ^ 15) (c / 2 ^ 10 % 32 * 2 ^ 10) = subst (λ (q : ℕ). c / 2 ^ 10 * 2 ^ 10 ≡ bit_xor (q * 2 ^ 15) (c / 2 ^ 10 % 32 * 2 ^ 10)) q3 (part c 10 (omega arith) (omega arith)) in
    let p1 : c / 2 ^ 5 * 2 ^ 5 ≡ bit_xor (c / 2 ^ 10 * 2 ^ 10) (c / 2 ^ 5 % 32 * 2 ^ 5) = subst (λ (q : ℕ). c / 2 ^ 5 * 2 ^ 5 ≡ bit_xor (q * 2 ^ 10) (c / 2 ^ 5 % 32 * 2 ^ 5)) q2 (part c 5 (omega arith) (omega arith)) in
    let p0 : c ≡ bit_xor (c / 2 ^ 5 * 2 ^ 5) (c % 32) =
    let same : c ≡ c / 2 ^ 5 * 2 ^ 5 + c % 32 = omega arith in
    same ∙ sym (xor_disjoint _ _ (and_shifted (c / 2 ^ 5) 5 (c % 32) (omega arith))) in
    let s7 = entry₇ (c / 2 ^ 35) (omega arith) in
    let s6 = more _ _ _ _ _ p6 (omega arith) (omega arith) s7 (entry₆ (c / 2 ^ 30 % 32) (omega arith)) in
    let s5 = more _ _ _ _ _ p5 (omega arith) (omega arith) s6 (entry₅ (c / 2 ^ 25 % 32) (omega arith)) in
    let s4 = more _ _ _ _ _ p4 (omega arith) (omega arith) s5 (entry₄ (c / 2 ^ 20 % 32) (omega arith)) in
    let s3 = more _ _ _ _ _ p3 (omega arith) (omega arith) s4 (entry₃ (c / 2 ^ 15 % 32) (omega arith)) in
    let s2 = more _ _ _ _ _ p2 (omega arith) (omega arith) s3 (entry₂ (c / 2 ^ 10 % 32) (omega arith)) in
    let s1 = more _ _ _ _ _ p1 (omega arith) (omega arith) s2 (entry₁ (c / 2 ^ 5 % 32) (omega arith)) in
    more _ _ _ _ _ p0 (omega arith) (omega arith) s1 (entry₀ (c % 32) (omega arith))

-- ---- one element after another

step : ℕ → ℕ → ℕ
step c e = bit_xor (c % 2 ^ 35 * 32 + e) (multiple (c / 2 ^ 35))

last : (m e p : ℕ) → bit_xor (bit_xor m e) p ≡ bit_xor (bit_xor m p) e
last m e p = xor_assoc m e p ∙ (ap (bit_xor m) (xor_comm e p) ∙ sym (xor_assoc m p e))

step_is : (c e : ℕ) → e < 32 → step c e ≡ bit_xor (times_x c) e
unfolding step times_x
step_is c e h =
    ap (λ m. bit_xor m (multiple (c / 2 ^ 35))) (joined (c % 2 ^ 35) e h) ∙ last (c % 2 ^ 35 * 32) e (multiple (c / 2 ^ 35))

step-lt : (c e : ℕ) → c < 2 ^ 40 → e < 32 → step c e < 2 ^ 40
unfolding step
step-lt c e hc he =
    let low : c % 2 ^ 35 * 32 + e < 2 ^ 40 = omega arith in
    xor_lt 40 _ _ low (multiple-lt (c / 2 ^ 35) (omega arith))

-- of a remainder and a row with no highest coefficient, each goes a place higher
apart : (c x v : ℕ) → c < 2 ^ 40 → x < 2 ^ 35 → v < 32 → step (bit_xor c x) v ≡ bit_xor (times_x c) (x * 32 + v)
apart c x v hc hx hv =
    step_is (bit_xor c x) v hv
    ∙ (ap (λ m. bit_xor m v) (times_x-add c x hc (omega arith) ∙ ap (bit_xor (times_x c)) (times_x-short x hx))
    ∙ (xor_assoc (times_x c) (x * 32) v ∙ ap (bit_xor (times_x c)) (sym (joined x v hv))))

residue_step : (p : List Fe32) (c : ℕ) (e : Fe32) → c < 2 ^ 40 → IsRemainder fe32.ops descriptor.generator p (digits 8 c)
    → IsRemainder fe32.ops descriptor.generator (e ∷ p) (digits 8 (step c e.value))
unfolding step
residue_step p c e hc h =
    let small : c / 2 ^ 35 % 32 ≡ c / 2 ^ 35 = omega arith in
    let scaled : digits 8 (multiple (c / 2 ^ 35)) ≡ scale fe32.ops (fe32.element (c / 2 ^ 35)) descriptor.generator =
    subst (λ v. digits 8 (multiple v) ≡ scale fe32.ops (fe32.element (c / 2 ^ 35)) descriptor.generator) small
    (multiple_is (fe32.element (c / 2 ^ 35))) in
    input_result descriptor.generator p 8 12 c (c % 2 ^ 35 * 32 + e.value) (multiple (c / 2 ^ 35)) (step c e.value) (c / 2 ^ 35) e
    refl (omega arith) (λ _. refl) (λ _. refl) scaled
    (xor_digits (c % 2 ^ 35 * 32 + e.value) (multiple (c / 2 ^ 35)) (step c e.value) refl) h

-- the remainder after the elements of a word is the sum of what the tables have of the remainder, and the word
pub word_after : (r n : ℕ) → r < 2 ^ 40 → n < 2 ^ 40
    → (bit_xor (sum_of r) n < 2 ^ 40) × IsResidueAfter (λ (k : ℕ). k) descriptor r (word_elements n) (bit_xor (sum_of r) n)
unfolding power
word_after r n hr hn =
    let a = n / 2 ^ 35 % 32 in
    let b = n / 2 ^ 30 % 32 in
    let c = n / 2 ^ 25 % 32 in
    let d = n / 2 ^ 20 % 32 in
    let e = n / 2 ^ 15 % 32 in
    let f = n / 2 ^ 10 % 32 in
    let g = n / 2 ^ 5 % 32 in
    let h = n / 2 ^ 0 % 32 in
    let h1 = times_x-lt r hr in
    let h2 = times_x-lt _ h1 in
    let h3 = times_x-lt _ h2 in
    let h4 = times_x-lt _ h3 in
    let h5 = times_x-lt _ h4 in
    let h6 = times_x-lt _ h5 in
    let h7 = times_x-lt _ h6 in
    let s1 : step r a ≡ bit_xor (times_x r) a = step_is r a (omega arith) in
    let s2 = ap (λ m. step m b) s1 ∙ apart (times_x r) a b h1 (omega arith) (omega arith) in
    let s3 = ap (λ m. step m c) s2 ∙ apart _ (a * 32 + b) c h2 (omega arith) (omega arith) in
    let s4 = ap (λ m. step m d) s3 ∙ apart _ ((a * 32 + b) * 32 + c) d h3 (omega arith) (omega arith) in
    let s5 = ap (λ m. step m e) s4 ∙ apart _ (((a * 32 + b) * 32 + c) * 32 + d) e h4 (omega arith) (omega arith) in
    let s6 = ap (λ m. step m f) s5 ∙ apart _ ((((a * 32 + b) * 32 + c) * 32 + d) * 32 + e) f h5 (omega arith) (omega arith) in
    let s7 = ap (λ m. step m g) s6 ∙ apart _ (((((a * 32 + b) * 32 + c) * 32 + d) * 32 + e) * 32 + f) g h6 (omega arith) (omega arith) in
    let s8 = ap (λ m. step m h) s7 ∙ apart _ ((((((a * 32 + b) * 32 + c) * 32 + d) * 32 + e) * 32 + f) * 32 + g) h h7 (omega arith) (omega arith) in
    let row : ((((((a * 32 + b) * 32 + c) * 32 + d) * 32 + e) * 32 + f) * 32 + g) * 32 + h ≡ n = omega arith in
    let sum = tables_are r hr in
    let all = s8 ∙ ap (bit_xor (power 8 r)) row ∙ ap (λ m. bit_xor m n) sum in
    let l1 = step-lt r a hr (omega arith) in
    let l2 = step-lt _ b l1 (omega arith) in
    let l3 = step-lt _ c l2 (omega arith) in
    let l4 = step-lt _ d l3 (omega arith) in
    let l5 = step-lt _ e l4 (omega arith) in
    let l6 = step-lt _ f l5 (omega arith) in
    let l7 = step-lt _ g l6 (omega arith) in
    let l8 = step-lt _ h l7 (omega arith) in (
      subst (λ (m : ℕ). m < 2 ^ 40) all l8,
      λ p held.
          let r1 = residue_step p r (element (n / 2 ^ 35)) hr held in
          let r2 = residue_step _ _ (element (n / 2 ^ 30)) l1 r1 in
          let r3 = residue_step _ _ (element (n / 2 ^ 25)) l2 r2 in
          let r4 = residue_step _ _ (element (n / 2 ^ 20)) l3 r3 in
          let r5 = residue_step _ _ (element (n / 2 ^ 15)) l4 r4 in
          let r6 = residue_step _ _ (element (n / 2 ^ 10)) l5 r5 in
          let r7 = residue_step _ _ (element (n / 2 ^ 5)) l6 r6 in
          subst (λ (m : ℕ). IsRemainder fe32.ops descriptor.generator
          (element (n / 2 ^ 0) ∷ element (n / 2 ^ 5) ∷ element (n / 2 ^ 10) ∷ element (n / 2 ^ 15) ∷ element (n / 2 ^ 20) ∷ element (n / 2 ^ 25)
          ∷ element (n / 2 ^ 30) ∷ element (n / 2 ^ 35) ∷ p) (digits 8 m)) all
          (residue_step _ _ (element (n / 2 ^ 0)) l7 r7),
    )
