-- The product with an element, taken bit by bit.
use Rattle.std.proofs.Common.{◌≡◌, ◌≢◌, ◌<◌, ◌+◌, ◌*◌, ◌/◌, ◌%◌, ◌^◌, ◌==◌, ℕ, zero, suc, refl, sym, ◌∙◌, ap, bit_xor, Bool, true, false, add-one, eq-eqb}
use Rattle.std.specs.Prelude.{if◌then◌else◌}
use Rattle.std.proofs.lemmas.Bool.{eqb-true, false_from_ne_true}
use Rattle.std.proofs.Math.Nat.{zero-div}
use lib.Bits.{xor_zero_r}
use Rattle.bech32_gf.specs.laws.Below.{each_below-at₂}
use Rattle.bech32_gf.specs.declared.gf32.Fe32.{Fe32}
use Rattle.bech32_gf.specs.Gf32.{product, product_of}
use Rattle.bech32_gf.specs.Field.{power}
use Rattle.bech32_gf.specs.Fe32 as fe32
use Rattle.bech32_gf.specs.laws.Fe32Laws.{is_field}
use Rattle.bech32_poly.specs.Polynomial.{scale}
use Rattle.bech32_poly.proofs.Lists.{same_cons}
use Rattle.bech32_checksum.specs.Packed.{digit_of, digits, sum_of_words, tabulate}

-- w times the element whose value has those of the lowest i bits of x
abbrev pub partial_product : ℕ → ℕ → Fe32 → Fe32
partial_product zero x w = fe32.zero
partial_product (suc i) x w =
    fe32.add (partial_product i x w) (if (x / 2 ^ i) % 2 == 1 then fe32.mul w (power fe32.ops fe32.generator i) else fe32.zero)

-- the same on values
abbrev partial_value : ℕ → ℕ → ℕ → ℕ
partial_value zero x w = 0
partial_value (suc i) x w = bit_xor (partial_value i x w) (if (x / 2 ^ i) % 2 == 1 then product w (product_of 2 i) else 0)

value-if : (b : Bool) (x y : Fe32) → (if b then x else y).value ≡ (if b then x.value else y.value)
value-if true x y = refl
value-if false x y = refl

value-power : (n : ℕ) → (power fe32.ops fe32.generator n).value ≡ product_of 2 n
unfolding power product_of
value-power zero = refl
value-power (suc n) = ap (product 2) (value-power n)

value-partial_product : (i x : ℕ) (w : Fe32) → (partial_product i x w).value ≡ partial_value i x w.value
value-partial_product zero x w = refl
value-partial_product (suc i) x w =
    ap (λ m. bit_xor m (if (x / 2 ^ i) % 2 == 1 then fe32.mul w (power fe32.ops fe32.generator i) else fe32.zero).value) (value-partial_product i x w)
    ∙ ap (λ m. bit_xor (partial_value i x w.value) m)
    (value-if ((x / 2 ^ i) % 2 == 1) (fe32.mul w (power fe32.ops fe32.generator i)) fe32.zero
    ∙ ap (λ m. if (x / 2 ^ i) % 2 == 1 then product w.value m else 0) (value-power i))

whole_value : (x w : ℕ) → x < 32 → w < 32 → partial_value 5 x w ≡ product w x
unfolding product product_of
whole_value x w hx hw = eqb-true _ _ (each_below-at₂ 32 (λ x w. partial_value 5 x w == product w x) refl x w hx hw)

-- all five bits give the product
pub partial_product-whole : (x w : Fe32) → partial_product 5 x.value w ≡ fe32.mul w x
partial_product-whole x w = fe32.path _ _ (value-partial_product 5 x.value w ∙ whole_value x.value w.value x.in_field w.in_field)

-- a row of zeros
pub zero_digit : (n : ℕ) → digit_of 0 n ≡ fe32.zero
zero_digit n = ap fe32.element (zero-div (2 ^ (5 * n)))

-- the loop over the bits, at a bit that is set and at one that is not
pub added : (i x : ℕ) (acc w : Fe32) → (x / 2 ^ i) % 2 ≡ 1 → acc ≡ partial_product i x w
    → fe32.add acc (fe32.mul w (power fe32.ops fe32.generator i)) ≡ partial_product (i + 1) x w
added i x acc w h is =
    let set : ((x / 2 ^ i) % 2 == 1) ≡ true = eq-eqb ((x / 2 ^ i) % 2) 1 h in
    rw (add-one, set, is) refl

pub kept : (i x : ℕ) (acc w : Fe32) → (x / 2 ^ i) % 2 ≢ 1 → acc ≡ partial_product i x w
    → acc ≡ partial_product (i + 1) x w
kept i x acc w h is =
    let clear : ((x / 2 ^ i) % 2 == 1) ≡ false = false_from_ne_true ((x / 2 ^ i) % 2 == 1) (λ t. h (eqb-true ((x / 2 ^ i) % 2) 1 t)) in
    rw (add-one, clear) (is ∙ sym (is_field.add_zero (partial_product i x w)))

-- the same on the sum of words
pub word-added : (word : ℕ → ℕ) (i x sum new : ℕ) → (x / 2 ^ i) % 2 ≡ 1 → sum ≡ sum_of_words word i x → new ≡ bit_xor sum (word i)
    → new ≡ sum_of_words word (i + 1) x
word-added word i x sum new h is e =
    let set : ((x / 2 ^ i) % 2 == 1) ≡ true = eq-eqb ((x / 2 ^ i) % 2) 1 h in
    rw (add-one, set) (e ∙ ap (λ s. bit_xor s (word i)) is)

pub word-kept : (word : ℕ → ℕ) (i x sum : ℕ) → (x / 2 ^ i) % 2 ≢ 1 → sum ≡ sum_of_words word i x → sum ≡ sum_of_words word (i + 1) x
word-kept word i x sum h is =
    let clear : ((x / 2 ^ i) % 2 == 1) ≡ false = false_from_ne_true ((x / 2 ^ i) % 2 == 1) (λ t. h (eqb-true ((x / 2 ^ i) % 2) 1 t)) in
    rw (add-one, clear) (is ∙ sym (xor_zero_r (sum_of_words word i x)))

scaled-tabulate : (c : ℕ) (t : Fe32) (f h : ℕ → Fe32) → ((n : ℕ) → h n ≡ fe32.mul t (f n))
    → tabulate c h ≡ scale fe32.ops t (tabulate c f)
scaled-tabulate zero t f h each = refl
scaled-tabulate (suc c) t f h each = same_cons _ _ _ _ (each 0) (scaled-tabulate c t (λ i. f (suc i)) (λ i. h (suc i)) (λ n. each (suc n)))

-- after five bits the sum is the product of the word and the element
pub scaled_word : (d sum word : ℕ) (e : Fe32) → ((n : ℕ) → digit_of sum n ≡ partial_product 5 e.value (digit_of word n))
    → digits d sum ≡ scale fe32.ops e (digits d word)
scaled_word d sum word e each =
    scaled-tabulate d e (digit_of word) (digit_of sum)
    (λ n. each n ∙ (partial_product-whole e (digit_of word n) ∙ is_field.mul_comm (digit_of word n) e))
