-- One error beside an element at a known location: what the syndromes say of it, and the element.
use Rattle.std.proofs.Common.{◌≡◌, ◌<◌, ◌+◌, ◌-◌, ◌*◌, ◌%◌, get_or, ℕ, List, [], ◌∷◌, length, refl, sym, ap, ◌∙◌, arith, bit_xor, ⊎_elim}
use Rattle.std.specs.Prelude.{◌≢◌, ◌≤◌}
use Rattle.std.proofs.lemmas.Bool.{cases_lt}
use Rattle.std.proofs.lemmas.Nat.{xor_lt}
use Rattle.bech32_gf.specs.Fe32 as fe32
use Rattle.bech32_gf.specs.Field.{Ops, IsField, power}
use Rattle.bech32_gf.specs.declared.gf32.Fe32.{Fe32}
use Rattle.bech32_gf.specs.laws.Fe32Laws as fe32_laws
use Rattle.bech32_gf.specs.laws.FieldLaws.{power-add, power-mul, power-one, power-suc}
use Rattle.bech32_gf.specs.laws.Ring.{mul_zero, ring, zero_mul}
use Rattle.bech32_gf_ext.specs.Fe1024 as fe1024
use Rattle.bech32_gf_ext.specs.Fe1024.{add, embed, mul}
use Rattle.bech32_gf_ext.specs.declared.Fe32Ext.{Fe32Ext}
use Rattle.bech32_gf_ext.specs.laws.CharacteristicTwo.{HasCharacteristicTwo, even_sums}
use Rattle.bech32_gf_ext.specs.laws.Fe1024Laws.{embed-add, embed-mul, is_field}
use Rattle.bech32_poly.specs.Division.{remainder_of}
use Rattle.bech32_poly.specs.Embedding.{Embeds, value_in}
use Rattle.bech32_poly.specs.Pattern.{pattern_polynomial}
use Rattle.bech32_poly.specs.Polynomial as polynomial
use Rattle.bech32_poly.specs.Polynomial.{scale}
use Rattle.bech32_poly.specs.Remainder.{monic}
use Rattle.bech32_poly.proofs.Embedding.{value_in-monic}
use Rattle.bech32_poly.proofs.Lists.{length-scale, same_cons}
use Rattle.bech32_poly.proofs.PatternSums.{residue_syndrome}
use Rattle.bech32_poly.proofs.Remainder.{remainder_of-itself, remainder_of-same, remainder_unique}
use Rattle.bech32_checksum.specs.Code.{bech32}
use Rattle.bech32_checksum.specs.Lookup.{MatchLookup}
use Rattle.bech32_checksum.specs.OneError.{IsLeftBy, packed}
use Rattle.bech32_checksum.specs.Packed.{digits}
use Rattle.bech32_checksum.specs.Syndromes.{error_sum, pair_at, sum_beside, syndrome}
use Rattle.bech32_checksum.specs.declared.checksums.logarithms.TheConstants.{LOGARITHMS, POWERS}
use Rattle.bech32_checksum.specs.declared.lookups.Lookup.{Lookup}
use Rattle.bech32_checksum.specs.declared.lookups.Lookup.TheVariants.{NoTable, Absent, Found}
use Rattle.bech32_checksum.specs.laws.RootLaws.{base, bech32_roots}
use Rattle.bech32_checksum.proofs.Erased.{back, digits-multiple, digits-packed_six, digits-xor, two_leave}
use Rattle.bech32_checksum.proofs.NoValues.{both_leave, six}
use Rattle.bech32_checksum.proofs.OneError.{row}
use Rattle.bech32_checksum.proofs.Syndromes.{by_logarithm, logarithm-lt, logarithm_is, number_of_power, pair-embed, pair-xor, pair-zero, power-lt, power_of, power_read, zero_number}

-- ---- the syndromes of an element and an error

into : Embeds fe32.ops fe1024.ops embed
into = record { one = refl; add = embed-add; mul = embed-mul }

root_there : (j : ℕ) → j < 3 → value_in fe1024.ops embed (monic fe32.ops bech32.generator) (power_of (24 + j)) ≡ fe1024.zero
root_there j h =
    value_in-monic fe32_laws.is_field is_field into bech32.generator (power_of (24 + j))
    ∙ (bech32_roots (omega arith)).are_roots (24 + j) (omega arith) (omega arith)

left_remainder : (l : List Fe32) (errors : List (ℕ × Fe32)) → length l ≡ 6 → IsLeftBy bech32.generator l errors
    → remainder_of fe32.ops bech32.generator (pattern_polynomial fe32.ops errors) ≡ l
left_remainder l errors size left =
    sym (sym (remainder_of-itself fe32_laws.is_field bech32.generator l size)
    ∙ sym (remainder_of-same fe32_laws.is_field bech32.generator left.0 l left.2)
    ∙ remainder_of-itself fe32_laws.is_field bech32.generator left.0 left.1.short
    ∙ remainder_unique fe32_laws.is_field bech32.generator (pattern_polynomial fe32.ops errors) left.0 left.1)

-- an element that is not zero of the first syndrome, for a value at a location
abbrev part : Fe32 → ℕ → Fe32Ext 2
part value location = mul (embed value) (power fe1024.ops (power_of location) 24)

syndrome_of_two : (l : List Fe32) (i j : ℕ) (v w : Fe32) (t : ℕ) → t < 3 → length l ≡ 6 → IsLeftBy bech32.generator l ((i, v) ∷ (j, w) ∷ [])
    → syndrome l t ≡ add (mul (part v i) (power fe1024.ops (power_of i) t)) (add (mul (part w j) (power fe1024.ops (power_of j) t)) fe1024.zero)
syndrome_of_two l i j v w t h size left =
    residue_syndrome fe32_laws.is_field is_field into base bech32.generator l ((i, v) ∷ (j, w) ∷ []) 24 t (root_there t h)
    (left_remainder l ((i, v) ∷ (j, w) ∷ []) size left)

module _ {F : Type 0} {o : Ops F} (l : IsField o) (even : HasCharacteristicTwo o) where
  first_sum : (v w a b s t : F) → s ≡ o.add (o.mul v (power o a 0)) (o.add (o.mul w (power o b 0)) o.zero)
      → t ≡ o.add (o.mul v (power o a 1)) (o.add (o.mul w (power o b 1)) o.zero) → o.add t (o.mul s a) ≡ o.mul w (o.add a b)
  unfolding power
  first_sum v w a b s t es et = rw (es, et) (simp (ring, even_sums, l, even))

  square : (a : F) → power o a 2 ≡ o.mul a a
  square a = power-suc l a 1 ∙ ap (o.mul a) (power-one l a)

  second_sum : (v w a b s t u : F) → s ≡ o.add (o.mul v (power o a 0)) (o.add (o.mul w (power o b 0)) o.zero)
      → t ≡ o.add (o.mul v (power o a 1)) (o.add (o.mul w (power o b 1)) o.zero)
      → u ≡ o.add (o.mul v (power o a 2)) (o.add (o.mul w (power o b 2)) o.zero) → o.add u (o.mul t a) ≡ o.mul b (o.add t (o.mul s a))
  unfolding power
  second_sum v w a b s t u es et eu = rw (es, et, eu, square a, square b) (simp (ring, even_sums, l, even))

even : HasCharacteristicTwo fe1024.ops
even = is_field.add_neg

lower_sum : (l : List Fe32) (i j : ℕ) (v w : Fe32) → length l ≡ 6 → IsLeftBy bech32.generator l ((i, v) ∷ (j, w) ∷ []) → sum_beside l i 0 ≡ error_sum w i j
lower_sum l i j v w size left =
    first_sum is_field even (part v i) (part w j) (power_of i) (power_of j) (syndrome l 0) (syndrome l 1)
    (syndrome_of_two l i j v w 0 (omega arith) size left) (syndrome_of_two l i j v w 1 (omega arith) size left)

upper_sum : (l : List Fe32) (i j : ℕ) (v w : Fe32) → length l ≡ 6 → IsLeftBy bech32.generator l ((i, v) ∷ (j, w) ∷ [])
    → sum_beside l i 1 ≡ mul (power_of j) (sum_beside l i 0)
upper_sum l i j v w size left =
    second_sum is_field even (part v i) (part w j) (power_of i) (power_of j) (syndrome l 0) (syndrome l 1) (syndrome l 2)
    (syndrome_of_two l i j v w 0 (omega arith) size left) (syndrome_of_two l i j v w 1 (omega arith) size left) (syndrome_of_two l i j v w 2 (omega arith) size left)

-- ---- the location of the error

-- what an error at a location that leaves the residue beside an element makes of the two sums
pub record Tells (lower upper location other : ℕ) (value : Fe32) : Type 0 where
  pub none : lower ≡ 0 → upper ≡ 0
  pub some : 0 < lower → 0 < upper
  pub step : 0 < lower → get_or LOGARITHMS upper 0 ≡ (other + get_or LOGARITHMS lower 0) % 1023
  pub sum : pair_at lower 0 ≡ error_sum value location other

pub told : (l : List Fe32) (i j lower upper : ℕ) (v w : Fe32) → length l ≡ 6 → IsLeftBy bech32.generator l ((i, v) ∷ (j, w) ∷ [])
    → lower < 1024 → upper < 1024 → pair_at lower 0 ≡ sum_beside l i 0 → pair_at upper 0 ≡ sum_beside l i 1 → Tells lower upper i j w
told l i j lower upper v w size left hl hu el eu =
    let turned : pair_at upper 0 ≡ mul (power_of j) (pair_at lower 0) = eu ∙ upper_sum l i j v w size left ∙ ap (mul (power_of j)) (sym el) in
    let up : 0 < lower → pair_at upper 0 ≡ power_of (j + get_or LOGARITHMS lower 0) =
    λ some. turned ∙ ap (mul (power_of j)) (by_logarithm lower some hl) ∙ sym (power-add is_field base j (get_or LOGARITHMS lower 0)) in
    record {
      none = λ e. zero_number upper hu (turned ∙ ap (λ (n : ℕ). mul (power_of j) (pair_at n 0)) e ∙ ap (mul (power_of j)) pair-zero ∙ mul_zero is_field (power_of j));
      some = λ some. (logarithm_is upper (j + get_or LOGARITHMS lower 0) hu (up some)).0;
      step = λ some. (logarithm_is upper (j + get_or LOGARITHMS lower 0) hu (up some)).1;
      sum = el ∙ lower_sum l i j v w size left;
    }

-- the difference of the logarithms is the location
pub location_there : (i j lower upper : ℕ) (w : Fe32) → j < 1023 → 0 < lower → lower < 1024 → Tells lower upper i j w
    → (get_or LOGARITHMS upper 0 + 1023 - get_or LOGARITHMS lower 0) % 1023 ≡ j
location_there i j lower upper w hj some hl tells =
    let small : get_or LOGARITHMS lower 0 < 1023 = logarithm-lt lower hl in
    let step : get_or LOGARITHMS upper 0 ≡ (j + get_or LOGARITHMS lower 0) % 1023 = tells.step some in
    omega (arith, small, step, hj)

-- ---- the value of the error

positive : (n : ℕ) → n ≢ 0 → 0 < n
positive n h = ⊎_elim (λ (some : 0 < n). some) (λ (none : n ≤ 0). let e : n ≡ 0 = omega (arith, none) in absurd (h e)) (cases_lt 0 n)

pub apart-lt : (i j : ℕ) → i < 1023 → j < 1023 → bit_xor (get_or POWERS i 0) (get_or POWERS j 0) < 1024
apart-lt i j hi hj = xor_lt 10 (get_or POWERS i 0) (get_or POWERS j 0) (power-lt i hi).1 (power-lt j hj).1

apart_is : (i j : ℕ) → i < 1023 → j < 1023 → pair_at (bit_xor (get_or POWERS i 0) (get_or POWERS j 0)) 0 ≡ add (power_of i) (power_of j)
apart_is i j hi hj =
    pair-xor (get_or POWERS i 0) (get_or POWERS j 0) 0
    ∙ ap (λ (x : Fe32Ext 2). add x (pair_at (get_or POWERS j 0) 0)) (power_read i hi) ∙ ap (add (power_of i)) (power_read j hj)

back_by : (lt lw ld j : ℕ) → lw < 1023 → ld < 1023 → j < 1023 → lt ≡ (lw + j * 24 + ld) % 1023 → (lt + 1023 - ld + 24 * (1023 - j)) % 1023 ≡ lw
back_by lt lw ld j hw hd hj e = omega (arith, hw, hd, hj, e)

pub value_there : (lower i j : ℕ) (w : Fe32) → 0 < lower → lower < 1024 → i < 1023 → j < 1023 → pair_at lower 0 ≡ error_sum w i j
    → get_or POWERS ((get_or LOGARITHMS lower 0 + 1023 - get_or LOGARITHMS (bit_xor (get_or POWERS i 0) (get_or POWERS j 0)) 0 + 24 * (1023 - j)) % 1023) 0 ≡ w.value
value_there lower i j w some hl hi hj e =
    let d : ℕ = bit_xor (get_or POWERS i 0) (get_or POWERS j 0) in
    let hd : bit_xor (get_or POWERS i 0) (get_or POWERS j 0) < 1024 = apart-lt i j hi hj in
    let whole : pair_at lower 0 ≡ mul (part w j) (pair_at d 0) = e ∙ ap (mul (part w j)) (sym (apart_is i j hi hj)) in
    let nothing : pair_at lower 0 ≡ fe1024.zero → ⊥ = λ z. let none : lower ≡ 0 = zero_number lower hl z in omega (arith, none, some) in
    let some_d : 0 < d = positive d (λ z. nothing (whole ∙ ap (λ (n : ℕ). mul (part w j) (pair_at n 0)) z ∙ ap (mul (part w j)) pair-zero ∙ mul_zero is_field (part w j))) in
    let hw : w.value < 1024 = omega (arith, w.in_field) in
    let some_w : 0 < w.value =
    positive w.value (λ z. nothing (whole ∙ ap (λ (x : Fe32Ext 2). mul (mul x (power fe1024.ops (power_of j) 24)) (pair_at d 0)) (sym (pair-embed w) ∙ ap (λ (n : ℕ). pair_at n 0) z ∙ pair-zero)
    ∙ ap (λ (x : Fe32Ext 2). mul x (pair_at d 0)) (zero_mul is_field (power fe1024.ops (power_of j) 24)) ∙ zero_mul is_field (pair_at d 0))) in
    let lw : ℕ = get_or LOGARITHMS w.value 0 in
    let ld : ℕ = get_or LOGARITHMS d 0 in
    let factors : part w j ≡ power_of (lw + j * 24) =
    ap (λ (x : Fe32Ext 2). mul x (power fe1024.ops (power_of j) 24)) (sym (pair-embed w) ∙ by_logarithm w.value some_w hw)
    ∙ ap (mul (power_of lw)) (sym (power-mul is_field base j 24)) ∙ sym (power-add is_field base lw (j * 24)) in
    let total : pair_at lower 0 ≡ power_of (lw + j * 24 + ld) =
    whole ∙ ap (λ (x : Fe32Ext 2). mul x (pair_at d 0)) factors ∙ ap (mul (power_of (lw + j * 24))) (by_logarithm d some_d hd) ∙ sym (power-add is_field base (lw + j * 24) ld) in
    let is : get_or LOGARITHMS lower 0 ≡ (lw + j * 24 + ld) % 1023 = (logarithm_is lower (lw + j * 24 + ld) hl total).1 in
    let small : lw % 1023 ≡ lw = omega (arith, logarithm-lt w.value hw) in
    ap (λ (n : ℕ). get_or POWERS n 0) (back_by (get_or LOGARITHMS lower 0) lw ld j (logarithm-lt w.value hw) (logarithm-lt d hd) hj is ∙ sym small)
    ∙ sym (number_of_power w.value lw hw (by_logarithm w.value some_w hw))

-- ---- the element beside it

taken_twice : (p q : List Fe32) → length p ≡ length q → polynomial.add fe32.ops (polynomial.add fe32.ops p q) q ≡ p
taken_twice [] [] e = refl
taken_twice [] (y ∷ q) e = absurd (omega arith)
taken_twice (x ∷ p) [] e = absurd (omega arith)
taken_twice (x ∷ p) (y ∷ q) e =
    same_cons _ _ _ _ (fe32_laws.is_field.add_assoc x y y ∙ ap (fe32.add x) (fe32_laws.is_field.add_neg y) ∙ fe32_laws.is_field.add_zero x) (taken_twice p q (omega arith))

-- what is left of the residue without the error is the element's
pub element_left : (l : List Fe32) (n m i : ℕ) (error : ℕ × Fe32) (v : Fe32) → length l ≡ 6 → n ≡ packed l → i < 1023 → error.0 < 1023
    → m ≡ packed (scale fe32.ops error.1 (digits 6 (row error.0))) → IsLeftBy bech32.generator l ((i, v) ∷ error ∷ [])
    → digits 6 (bit_xor n m) ≡ scale fe32.ops v (digits 6 (row i))
element_left l n m i error v size is hi hj em left =
    let p = scale fe32.ops v (digits 6 (row i)) in
    let q = scale fe32.ops error.1 (digits 6 (row error.0)) in
    let same : length p ≡ length q =
    length-scale fe32_laws.is_field v (digits 6 (row i)) ∙ six (row i) ∙ sym (length-scale fe32_laws.is_field error.1 (digits 6 (row error.0)) ∙ six (row error.0)) in
    digits-xor n m ∙ ap (λ u. polynomial.add fe32.ops u (digits 6 m)) (digits-packed_six n l size is ∙ both_leave l i error.0 v error.1 size hi hj left)
    ∙ ap (polynomial.add fe32.ops (polynomial.add fe32.ops p q)) (digits-multiple m (row error.0) error.1 em) ∙ taken_twice p q same

pub element_found : (l : List Fe32) (n m i : ℕ) (error : ℕ × Fe32) (v : Fe32) → length l ≡ 6 → n ≡ packed l → i < 1023 → error.0 < 1023
    → m ≡ packed (scale fe32.ops error.1 (digits 6 (row error.0))) → digits 6 (bit_xor n m) ≡ scale fe32.ops v (digits 6 (row i))
    → IsLeftBy bech32.generator l ((i, v) ∷ error ∷ [])
element_found l n m i error v size is hi hj em e =
    two_leave l i error.0 v error.1 hi hj
    (sym (digits-packed_six n l size is) ∙ back n m ∙ ap (λ u. polynomial.add fe32.ops u (digits 6 m)) e
    ∙ ap (polynomial.add fe32.ops (scale fe32.ops v (digits 6 (row i)))) (digits-multiple m (row error.0) error.1 em))

-- what is said of the residue without the error, said of the residue
pub element_said : (l : List Fe32) (n m i : ℕ) (error : ℕ × Fe32) (said : Lookup Fe32) → length l ≡ 6 → n ≡ packed l → i < 1023 → error.0 < 1023
    → m ≡ packed (scale fe32.ops error.1 (digits 6 (row error.0)))
    → MatchLookup said ((v : Fe32) → digits 6 (bit_xor n m) ≡ scale fe32.ops v (digits 6 (row i)) → ⊥)
    (λ value. digits 6 (bit_xor n m) ≡ scale fe32.ops value (digits 6 (row i)))
    → MatchLookup said ((v : Fe32) → IsLeftBy bech32.generator l ((i, v) ∷ error ∷ []) → ⊥)
    (λ v. IsLeftBy bech32.generator l ((i, v) ∷ error ∷ []))
element_said l n m i error NoTable size is hi hj em h = tt
element_said l n m i error Absent size is hi hj em h = λ v left. h v (element_left l n m i error v size is hi hj em left)
element_said l n m i error (Found v) size is hi hj em h = element_found l n m i error v size is hi hj em h
