-- One error by the generator of BIP-173: its residue has one key at each value, and the tables give
-- the location of each key.
use Rattle.std.specs.Prelude.{◌≢◌, nat_lt, cond, Bool, true, false}
use Rattle.std.proofs.Common.{◌≡◌, ◌<◌, ◌+◌, ◌*◌, ◌/◌, ◌%◌, ◌^◌, ◌==◌, ◌⊎◌, inl, inr, ℕ, zero, suc, List, [], ◌∷◌, length, get_or, refl, sym, ap, subst, ◌∙◌, arith, bit_xor}
use Rattle.std.proofs.Math.Decide.{dec_lt}
use Rattle.std.proofs.lemmas.Bool.{eqb-true, ltb-true}
use Rattle.bech32_gf.specs.Gf32.{product, product_of, inverse}
use Rattle.bech32_gf.specs.Fe32 as fe32
use Rattle.bech32_gf.specs.declared.gf32.Fe32.{Fe32}
use Rattle.bech32_gf.specs.laws.Below.{each_below-at, each_below-at₂}
use Rattle.bech32_gf.specs.laws.Fe32Laws.{eq_is_equal, is_field}
use Rattle.bech32_gf.specs.laws.Ring.{mul_zero}
use Rattle.bech32_poly.specs.Division.{remainder_of, zeros}
use Rattle.bech32_poly.specs.Pattern.{monomial, pattern_polynomial}
use Rattle.bech32_poly.specs.Polynomial.{scale}
use Rattle.bech32_poly.specs.Remainder.{IsRemainder}
use Rattle.bech32_poly.proofs.Lists.{length-scale, same_cons, scale-scale, scale-zero}
use Rattle.bech32_poly.proofs.Remainder.{remainder_exists, remainder_of-itself, remainder_of-same, remainder_of-scale, remainder_unique}
use Rattle.bech32_checksum.specs.Code.{bech32}
use Rattle.bech32_checksum.specs.OneError.{IsLeftBy, key, leading, packed}
use Rattle.bech32_checksum.specs.Packed.{digits}
use Rattle.bech32_checksum.proofs.EightSteps.{residue_step}
use Rattle.bech32_checksum.proofs.Residue.{one_is_residue}
use Rattle.bech32_checksum.proofs.TimesX.{multiple, times_x}
use Rattle.bech32_checksum.specs.declared.checksums.locations.TheConstants.{ANSWERS, KEYS, MOVES}
use Rattle.bech32_checksum.specs.declared.checksums.ones.TheConstants.{INVERSES, PRODUCTS_OF_TWO}
use Rattle.bech32_checksum.specs.declared.checksums.powers.TheConstants.{POWERS_OF_X}

-- ---- the remainders of the powers of x

abbrev pub row : ℕ → ℕ
row i = get_or POWERS_OF_X i 0

row-suc : (i : ℕ) → i < 1022 → get_or POWERS_OF_X (suc i) 0 ≡ times_x (get_or POWERS_OF_X i 0)
row-suc i h = eqb-true _ _ (each_below-at 1022 (λ i. get_or POWERS_OF_X (suc i) 0 == times_x (get_or POWERS_OF_X i 0)) refl i h)

row-lt : (i : ℕ) → i < 1023 → get_or POWERS_OF_X i 0 < 2 ^ 30
row-lt i h = ltb-true _ _ (each_below-at 1023 (λ i. nat_lt (get_or POWERS_OF_X i 0) (2 ^ 30)) refl i h)

-- the order of x is 1,023
row-mod : (n : ℕ) → get_or POWERS_OF_X (suc n % 1023) 0 ≡ times_x (get_or POWERS_OF_X (n % 1023) 0)
row-mod n = elim (dec_lt (n % 1023) 1022) [
  | yes less ↦ (
      let next : suc n % 1023 ≡ suc (n % 1023) = omega (arith, less) in
      ap row next ∙ row-suc (n % 1023) less
      )
  | no past ↦ (
      let here : n % 1023 ≡ 1022 = omega (arith, past) in
      let next : suc n % 1023 ≡ 0 = omega (arith, past) in
      let around : get_or POWERS_OF_X 0 0 ≡ times_x (get_or POWERS_OF_X 1022 0) = refl in
      ap row next ∙ around ∙ sym (ap (λ i. times_x (get_or POWERS_OF_X i 0)) here)
      )
]

pub rows_are : (n : ℕ) → IsRemainder fe32.ops bech32.generator (monomial fe32.ops n fe32.one) (digits 6 (row (n % 1023)))
rows_are zero = one_is_residue bech32.generator 6 1 (omega arith) (λ _. refl)
rows_are (suc n) =
    let c : ℕ = row (n % 1023) in
    let none : c % 2 ^ 25 * 32 + 0 ≡ c % 2 ^ 25 * 32 = omega arith in
    subst (λ m. IsRemainder fe32.ops bech32.generator (monomial fe32.ops (suc n) fe32.one) (digits 6 m))
    (ap (λ m. bit_xor m (multiple (c / 2 ^ 25))) none ∙ sym (row-mod n))
    (residue_step (monomial fe32.ops n fe32.one) c fe32.zero (row-lt (n % 1023) (omega arith)) (rows_are n))

pub row_is : (i : ℕ) → i < 1023 → IsRemainder fe32.ops bech32.generator (monomial fe32.ops i fe32.one) (digits 6 (row i))
row_is i h =
    let small : i % 1023 ≡ i = omega (arith, h) in
    subst (λ j. IsRemainder fe32.ops bech32.generator (monomial fe32.ops i fe32.one) (digits 6 (row j))) small (rows_are i)

-- ---- patterns of one error

pub monomial-scale : (i : ℕ) (v : Fe32) → monomial fe32.ops i v ≡ scale fe32.ops v (monomial fe32.ops i fe32.one)
monomial-scale zero v = ap (λ x. x ∷ []) (sym (is_field.mul_one v))
monomial-scale (suc i) v = same_cons _ _ _ _ (sym (mul_zero is_field v)) (monomial-scale i v)

one_item : (i : ℕ) (v : Fe32) → pattern_polynomial fe32.ops ((i, v) ∷ []) ≡ monomial fe32.ops i v
one_item zero v = refl
one_item (suc i) v = refl

pub remainder_is : (i : ℕ) (v : Fe32) → i < 1023 → remainder_of fe32.ops bech32.generator (pattern_polynomial fe32.ops ((i, v) ∷ [])) ≡ scale fe32.ops v (digits 6 (row i))
remainder_is i v h =
    ap (remainder_of fe32.ops bech32.generator) (one_item i v ∙ monomial-scale i v)
    ∙ remainder_of-scale is_field bech32.generator v (monomial fe32.ops i fe32.one)
    ∙ ap (scale fe32.ops v) (sym (remainder_unique is_field bech32.generator (monomial fe32.ops i fe32.one) (digits 6 (row i)) (row_is i h)))

-- a residue of six elements that an error leaves is its value times the remainder of the power of x
pub left_is : (l : List Fe32) (i : ℕ) (v : Fe32) → length l ≡ 6 → i < 1023 → IsLeftBy bech32.generator l ((i, v) ∷ []) → l ≡ scale fe32.ops v (digits 6 (row i))
left_is l i v size h left =
    sym (remainder_of-itself is_field bech32.generator l size)
    ∙ sym (remainder_of-same is_field bech32.generator left.0 l left.2)
    ∙ remainder_of-itself is_field bech32.generator left.0 left.1.short
    ∙ remainder_unique is_field bech32.generator (pattern_polynomial fe32.ops ((i, v) ∷ [])) left.0 left.1
    ∙ remainder_is i v h

-- errors whose remainder is the residue leave it
pub leaves : (l : List Fe32) (errors : List (ℕ × Fe32)) → l ≡ remainder_of fe32.ops bech32.generator (pattern_polynomial fe32.ops errors) → IsLeftBy bech32.generator l errors
leaves l errors e = (
  l,
  subst (IsRemainder fe32.ops bech32.generator (pattern_polynomial fe32.ops errors)) (sym e) (remainder_exists is_field bech32.generator (pattern_polynomial fe32.ops errors)),
  λ n. refl,
)

is_left : (l : List Fe32) (i : ℕ) (v : Fe32) → i < 1023 → l ≡ scale fe32.ops v (digits 6 (row i)) → IsLeftBy bech32.generator l ((i, v) ∷ [])
is_left l i v h e = leaves l ((i, v) ∷ []) (e ∙ sym (remainder_is i v h))

-- ---- keys

pub is_zero : (x : Fe32) → (x ≡ fe32.zero) ⊎ (x ≢ fe32.zero)
is_zero x = go (x.value == 0) refl
  where
    go : (b : Bool) → (x.value == 0) ≡ b → (x ≡ fe32.zero) ⊎ (x ≢ fe32.zero)
    go true e = inl ((eq_is_equal x fe32.zero).0 e)
    go false e = inr (λ z. let no : true ≡ false = sym ((eq_is_equal x fe32.zero).1 z) ∙ e in cc no)

pub not_zero_value : (x : Fe32) → x ≢ fe32.zero → (x.value == 0) ≡ false
not_zero_value x n = go (x.value == 0) refl
  where
    go : (b : Bool) → (x.value == 0) ≡ b → (x.value == 0) ≡ false
    go true e = absurd (n ((eq_is_equal x fe32.zero).0 e))
    go false e = e

pub leading-skip : (x : Fe32) (p : List Fe32) → x ≡ fe32.zero → leading (x ∷ p) ≡ leading p
leading-skip x p e = ap (λ b. cond b (leading p) x) ((eq_is_equal x fe32.zero).1 e)

pub leading-take : (x : Fe32) (p : List Fe32) → x ≢ fe32.zero → leading (x ∷ p) ≡ x
leading-take x p n = ap (λ b. cond b (leading p) x) (not_zero_value x n)

leading-zeros : (n : ℕ) → leading (zeros fe32.ops n) ≡ fe32.zero
leading-zeros zero = refl
leading-zeros (suc n) = leading-skip fe32.zero (zeros fe32.ops n) refl ∙ leading-zeros n

pub product_some : (v x : Fe32) → v ≢ fe32.zero → x ≢ fe32.zero → fe32.mul v x ≢ fe32.zero
product_some v x nv nx z =
    nv (sym (is_field.mul_one v) ∙ ap (fe32.mul v) (sym (is_field.mul_inv x nx)) ∙ sym (is_field.mul_assoc v x (fe32.inv x))
    ∙ ap (λ y. fe32.mul y (fe32.inv x)) z ∙ is_field.mul_comm fe32.zero (fe32.inv x) ∙ mul_zero is_field (fe32.inv x))

leading-scale : (v : Fe32) (p : List Fe32) → v ≢ fe32.zero → leading (scale fe32.ops v p) ≡ fe32.mul v (leading p)
leading-scale v [] n = sym (mul_zero is_field v)
leading-scale v (x ∷ p) n = elim (is_zero x) [
  | inl e ↦ leading-skip (fe32.mul v x) (scale fe32.ops v p) (ap (fe32.mul v) e ∙ mul_zero is_field v) ∙ leading-scale v p n ∙ ap (fe32.mul v) (sym (leading-skip x p e))
  | inr k ↦ leading-take (fe32.mul v x) (scale fe32.ops v p) (product_some v x n k) ∙ ap (fe32.mul v) (sym (leading-take x p k))
]

-- the inverse of a product, times one of its factors
pub inverse_left : (v l : Fe32) → l ≢ fe32.zero → fe32.mul v l ≢ fe32.zero → fe32.mul (fe32.inv (fe32.mul v l)) v ≡ fe32.inv l
inverse_left v l nl n =
    let whole = fe32.mul v l in
    let e : fe32.mul (fe32.inv l) whole ≡ v =
    is_field.mul_comm (fe32.inv l) whole ∙ is_field.mul_assoc v l (fe32.inv l) ∙ ap (fe32.mul v) (is_field.mul_inv l nl) ∙ is_field.mul_one v in
    is_field.mul_comm (fe32.inv whole) v ∙ ap (λ x. fe32.mul x (fe32.inv whole)) (sym e)
    ∙ is_field.mul_assoc (fe32.inv l) whole (fe32.inv whole) ∙ ap (fe32.mul (fe32.inv l)) (is_field.mul_inv whole n) ∙ is_field.mul_one (fe32.inv l)

scaled_some : (v : Fe32) (p : List Fe32) → leading (scale fe32.ops v p) ≢ fe32.zero → v ≢ fe32.zero
scaled_some v p n z = n (ap (λ u. leading (scale fe32.ops u p)) z ∙ ap leading (scale-zero is_field p) ∙ leading-zeros (length p))

-- a multiple that is not zero has the same key
pub key-scale : (v : Fe32) (p : List Fe32) → leading (scale fe32.ops v p) ≢ fe32.zero → key (scale fe32.ops v p) ≡ key p
key-scale v p n =
    let some = scaled_some v p n in
    let whole = leading-scale v p some in
    let nv : fe32.mul v (leading p) ≢ fe32.zero = λ z. n (whole ∙ z) in
    let nl : leading p ≢ fe32.zero = λ z. nv (ap (fe32.mul v) z ∙ mul_zero is_field v) in
    ap packed (scale-scale is_field (fe32.inv (leading (scale fe32.ops v p))) v p
    ∙ ap (λ l. scale fe32.ops (fe32.mul (fe32.inv l) v) p) whole
    ∙ ap (λ u. scale fe32.ops u p) (inverse_left v (leading p) nl nv))

pub packed-injective : (p q : List Fe32) → length p ≡ length q → packed p ≡ packed q → p ≡ q
packed-injective [] [] s e = refl
packed-injective [] (y ∷ q) s e = absurd (omega arith)
packed-injective (x ∷ p) [] s e = absurd (omega arith)
packed-injective (x ∷ p) (y ∷ q) s e =
    let low : x.value ≡ y.value = omega (arith, x.in_field, y.in_field) in
    let high : packed p ≡ packed q = omega (arith, x.in_field, y.in_field) in
    same_cons x y p q (fe32.path x y low) (packed-injective p q (omega arith) high)

pub scale-one : (p : List Fe32) → scale fe32.ops fe32.one p ≡ p
scale-one [] = refl
scale-one (x ∷ p) = same_cons _ _ _ _ (is_field.mul_comm fe32.one x ∙ is_field.mul_one x) (scale-one p)

-- ---- the tables

abbrev pub slot : ℕ → ℕ
slot k = (k % 2 ^ 25 * 208833772613 / 2 ^ 34 + get_or MOVES (k % 2 ^ 25 * 208833772613 / 2 ^ 44 % 512) 0) % 1024

pub entry-lt : (h : ℕ) → h < 1024 → get_or ANSWERS h 0 / 32 < 1023
entry-lt h l = ltb-true _ _ (each_below-at 1024 (λ h. nat_lt (get_or ANSWERS h 0 / 32) 1023) refl h l)

pub entry_is : (h : ℕ) → h < 1024 → get_or KEYS h 0 ≡ packed (scale fe32.ops (fe32.element (get_or ANSWERS h 0)) (digits 6 (get_or POWERS_OF_X (get_or ANSWERS h 0 / 32) 0)))
unfolding product
entry_is h l =
    eqb-true _ _ (each_below-at 1024 (λ h. get_or KEYS h 0 == packed (scale fe32.ops (fe32.element (get_or ANSWERS h 0)) (digits 6 (get_or POWERS_OF_X (get_or ANSWERS h 0 / 32) 0)))) refl h l)

pub key_there : (i : ℕ) → i < 1023 → get_or KEYS (slot (key (digits 6 (get_or POWERS_OF_X i 0)))) 0 ≡ key (digits 6 (get_or POWERS_OF_X i 0))
unfolding product product_of inverse
key_there i l =
    eqb-true _ _ (each_below-at 1023 (λ i. get_or KEYS (slot (key (digits 6 (get_or POWERS_OF_X i 0)))) 0 == key (digits 6 (get_or POWERS_OF_X i 0))) refl i l)

pub answer_there : (i : ℕ) → i < 1023 → get_or ANSWERS (slot (key (digits 6 (get_or POWERS_OF_X i 0)))) 0 / 32 ≡ i
unfolding product product_of inverse
answer_there i l =
    eqb-true _ _ (each_below-at 1023 (λ i. get_or ANSWERS (slot (key (digits 6 (get_or POWERS_OF_X i 0)))) 0 / 32 == i) refl i l)

-- ---- what is looked up

-- where the table has the residue's key, the entry's location and the value leave it
pub found : (l : List Fe32) (h : ℕ) → length l ≡ 6 → leading l ≢ fe32.zero → h < 1024 → get_or KEYS h 0 ≡ key l
    → (get_or ANSWERS h 0 / 32 < 1023) × (fe32.mul (leading l) (fe32.element (get_or ANSWERS h 0)) ≢ fe32.zero)
    × IsLeftBy bech32.generator l ((get_or ANSWERS h 0 / 32, fe32.mul (leading l) (fe32.element (get_or ANSWERS h 0))) ∷ [])
found l h size n small e =
    let a : ℕ = get_or ANSWERS h 0 in
    let s = fe32.element a in
    let d = leading l in
    let r = digits 6 (row (a / 32)) in
    let below = entry-lt h small in
    let same : scale fe32.ops (fe32.inv d) l ≡ scale fe32.ops s r =
    packed-injective (scale fe32.ops (fe32.inv d) l) (scale fe32.ops s r) (length-scale is_field (fe32.inv d) l ∙ size ∙ sym (length-scale is_field s r)) (sym e ∙ entry_is h small) in
    let whole : l ≡ scale fe32.ops (fe32.mul d s) r =
    sym (scale-one l) ∙ ap (λ u. scale fe32.ops u l) (sym (is_field.mul_inv d n)) ∙ sym (scale-scale is_field d (fe32.inv d) l)
    ∙ ap (scale fe32.ops d) same ∙ scale-scale is_field d s r in
    (below, scaled_some (fe32.mul d s) r (λ z. n (ap leading whole ∙ z)), is_left l (a / 32) (fe32.mul d s) below whole)

-- an error that leaves the residue is looked up by its key
pub looked_up : (l : List Fe32) (i : ℕ) (v : Fe32) → length l ≡ 6 → leading l ≢ fe32.zero → i < 1023 → IsLeftBy bech32.generator l ((i, v) ∷ [])
    → (get_or KEYS (slot (key l)) 0 ≡ key l) × (get_or ANSWERS (slot (key l)) 0 / 32 ≡ i)
looked_up l i v size n below left =
    let r = digits 6 (row i) in
    let whole = left_is l i v size below left in
    let same : key l ≡ key r = ap key whole ∙ key-scale v r (λ z. n (ap leading whole ∙ z)) in (
      ap (λ k. get_or KEYS (slot k) 0) same ∙ key_there i below ∙ sym same,
      ap (λ k. get_or ANSWERS (slot k) 0 / 32) same ∙ answer_there i below,
    )

-- ---- what the code computes

pub not_zero_by_eq : (x : Fe32) (b : Bool) → b ≡ (x.value == 0) → b ≡ false → x ≢ fe32.zero
not_zero_by_eq x b is off z = let e : true ≡ false = sym ((eq_is_equal x fe32.zero).1 z) ∙ sym is ∙ off in cc e

pub key_is : (l : List Fe32) (first factor : Fe32) (k : ℕ) → first ≡ leading l → factor ≡ fe32.inv first
    → k ≡ packed (scale fe32.ops factor l) → k ≡ key l
key_is l first factor k f q e = e ∙ ap (λ x. packed (scale fe32.ops x l)) (q ∙ ap fe32.inv f)

pub product_entry : (a b : ℕ) → a < 32 → b < 32 → get_or PRODUCTS_OF_TWO (32 * a + b) 0 ≡ product a b
unfolding product
product_entry a b ha hb = eqb-true _ _ (each_below-at₂ 32 (λ a b. get_or PRODUCTS_OF_TWO (32 * a + b) 0 == product a b) refl a b ha hb)

inverse_entry : (a : ℕ) → a < 32 → get_or INVERSES a 0 % 32 ≡ inverse a
unfolding product product_of inverse
inverse_entry a h = eqb-true _ _ (each_below-at 32 (λ a. get_or INVERSES a 0 % 32 == inverse a) refl a h)

pub inverse_read : (a : Fe32) → fe32.element (get_or INVERSES a.value 0) ≡ fe32.inv a
inverse_read a = fe32.path (fe32.element (get_or INVERSES a.value 0)) (fe32.inv a) (inverse_entry a.value a.in_field)

-- an element of the value of a product is the product
pub element_of_product : (a b : Fe32) → fe32.element (product a.value b.value) ≡ fe32.mul a b
element_of_product a b =
    let small : (fe32.mul a b).value < 32 = (fe32.mul a b).in_field in
    let same : (fe32.mul a b).value % 32 ≡ (fe32.mul a b).value = omega (arith, small) in
    fe32.path (fe32.element (product a.value b.value)) (fe32.mul a b) same

pub slot-lt : (k : ℕ) → slot k < 1024
slot-lt k = omega arith

pub low_bits : (n : ℕ) → fe32.element (n % 32) ≡ fe32.element n
low_bits n = let e : n % 32 % 32 ≡ n % 32 = omega arith in fe32.path (fe32.element (n % 32)) (fe32.element n) e
