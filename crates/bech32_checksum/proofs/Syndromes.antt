-- Elements of the field of 1,024 elements as numbers, their tables, and the syndromes of a residue.
use Rattle.std.proofs.Common.{◌≡◌, ◌<◌, ◌≤◌, ◌+◌, ◌-◌, ◌*◌, ◌/◌, ◌%◌, ◌&&◌, ◌==◌, get_or, ℕ, zero, suc, Bool, true, List, [], ◌∷◌, length, refl, sym, ap, ◌∙◌, arith, bit_xor}
use Rattle.std.specs.Prelude.{nat_lt}
use Rattle.std.proofs.lemmas.Bool.{eqb-true, ltb-true}
use Rattle.bech32_gf.specs.Fe32 as fe32
use Rattle.bech32_gf.specs.Field.{Ops, IsField, power}
use Rattle.bech32_gf.specs.Gf32.{product}
use Rattle.bech32_gf.specs.declared.gf32.Fe32.{Fe32}
use Rattle.bech32_gf.specs.laws.Below.{and_left, and_right, each_below, each_below-at}
use Rattle.bech32_gf.specs.laws.FieldLaws.{power-add, power-mul, power-suc, power-zero, power_mod}
use Rattle.bech32_gf.specs.laws.Ring.{ring}
use Rattle.bech32_gf_ext.specs.Fe1024 as fe1024
use Rattle.bech32_gf_ext.specs.Fe1024.{add, embed, high, low, mul, pair}
use Rattle.bech32_gf_ext.specs.Fe32Ext.{path_of_values}
use Rattle.bech32_gf_ext.specs.declared.Fe32Ext.{Fe32Ext}
use Rattle.bech32_gf_ext.specs.laws.Fe1024Laws.{is_field, parts, same_parts}
use Rattle.bech32_checksum.specs.Packed.{digit_of}
use Rattle.bech32_checksum.specs.Syndromes.{pair_at, syndrome}
use Rattle.bech32_checksum.specs.declared.checksums.logarithms.TheConstants.{LOGARITHMS, POWERS}
use Rattle.bech32_checksum.specs.declared.checksums.syndromes.TheConstants.{SYNDROMES}
use Rattle.bech32_checksum.specs.laws.PackedLaws.{xor_digits}
use Rattle.bech32_checksum.specs.laws.RootLaws.{base, base-order}

abbrev pub power_of : ℕ → Fe32Ext 2
power_of n = power fe1024.ops base n

-- ---- elements as numbers

pub same_lowest : (m n : ℕ) → m % 1024 ≡ n % 1024 → pair_at m 0 ≡ pair_at n 0
same_lowest m n e =
    let first : m / 1 % 32 ≡ n / 1 % 32 = omega (arith, e) in
    let second : m / 32 % 32 ≡ n / 32 % 32 = omega (arith, e) in
    same_parts (fe32.path (digit_of m 0) (digit_of n 0) first) (fe32.path (digit_of m 1) (digit_of n 1) second)

pub first_of_three : (n : ℕ) → pair_at (n % 1024) 0 ≡ pair_at n 0
first_of_three n = same_lowest (n % 1024) n (omega arith)

pub second_of_three : (n : ℕ) → pair_at (n / 1024 % 1024) 0 ≡ pair_at n 1
second_of_three n =
    let m : ℕ = n / 1024 % 1024 in
    let first : n / 1024 % 1024 / 1 % 32 ≡ n / 1024 % 32 = omega arith in
    let second : n / 1024 % 1024 / 32 % 32 ≡ n / 32768 % 32 = omega arith in
    same_parts (fe32.path (digit_of m 0) (digit_of n 2) first) (fe32.path (digit_of m 1) (digit_of n 3) second)

pub third_of_three : (n : ℕ) → pair_at (n / 1048576 % 1024) 0 ≡ pair_at n 2
third_of_three n =
    let m : ℕ = n / 1048576 % 1024 in
    let first : n / 1048576 % 1024 / 1 % 32 ≡ n / 1048576 % 32 = omega arith in
    let second : n / 1048576 % 1024 / 32 % 32 ≡ n / 33554432 % 32 = omega arith in
    same_parts (fe32.path (digit_of m 0) (digit_of n 4) first) (fe32.path (digit_of m 1) (digit_of n 5) second)

-- numbers of one element are the same
pub pair-injective : (m n : ℕ) → m < 1024 → n < 1024 → pair_at m 0 ≡ pair_at n 0 → m ≡ n
pair-injective m n hm hn e =
    let first : m / 1 % 32 ≡ n / 1 % 32 = ap (λ (x : Fe32Ext 2). (low x).value) e in
    let second : m / 32 % 32 ≡ n / 32 % 32 = ap (λ (x : Fe32Ext 2). (high x).value) e in
    omega (arith, first, second, hm, hn)

pub pair-xor : (m n j : ℕ) → pair_at (bit_xor m n) j ≡ add (pair_at m j) (pair_at n j)
unfolding add
pair-xor m n j = same_parts (xor_digits m n (bit_xor m n) refl (2 * j)) (xor_digits m n (bit_xor m n) refl (2 * j + 1))

pub pair-zero : pair_at 0 0 ≡ fe1024.zero
pair-zero = path_of_values _ _ refl

pub zero_number : (n : ℕ) → n < 1024 → pair_at n 0 ≡ fe1024.zero → n ≡ 0
zero_number n h e = pair-injective n 0 h (omega arith) (e ∙ sym pair-zero)

pub pair-embed : (x : Fe32) → pair_at x.value 0 ≡ embed x
pair-embed x =
    let first : x.value / 1 % 32 ≡ x.value = omega (arith, x.in_field) in
    let second : x.value / 32 % 32 ≡ 0 = omega (arith, x.in_field) in
    same_parts (fe32.path (digit_of x.value 0) x first) (fe32.path (digit_of x.value 1) fe32.zero second)

abbrev same_pair : Fe32Ext 2 → Fe32Ext 2 → Bool
same_pair x y = ((low x).value == (low y).value) && ((high x).value == (high y).value)

same_pair-path : (x y : Fe32Ext 2) → same_pair x y ≡ true → x ≡ y
same_pair-path x y h =
    sym (parts x)
    ∙ same_parts (fe32.path (low x) (low y) (eqb-true _ _ (and_left ((low x).value == (low y).value) _ h)))
    (fe32.path (high x) (high y) (eqb-true _ _ (and_right ((low x).value == (low y).value) _ h)))
    ∙ parts y

-- ---- the tables

next_power : (k : ℕ) → k < 1022 → pair_at (get_or POWERS (suc k) 0) 0 ≡ mul base (pair_at (get_or POWERS k 0) 0)
unfolding mul product
next_power k h =
    same_pair-path (pair_at (get_or POWERS (suc k) 0) 0) (mul base (pair_at (get_or POWERS k 0) 0))
    (each_below-at 1022 (λ k. same_pair (pair_at (get_or POWERS (suc k) 0) 0) (mul base (pair_at (get_or POWERS k 0) 0))) refl k h)

pub power_read : (k : ℕ) → k < 1023 → pair_at (get_or POWERS k 0) 0 ≡ power_of k
power_read zero h = path_of_values _ _ refl ∙ sym (power-zero is_field base)
power_read (suc k) h = next_power k (omega arith) ∙ ap (mul base) (power_read k (omega arith)) ∙ sym (power-suc is_field base k)

pub power-lt : (k : ℕ) → k < 1023 → (0 < get_or POWERS k 0) × (get_or POWERS k 0 < 1024)
power-lt k h =
    let both = each_below-at 1023 (λ k. nat_lt 0 (get_or POWERS k 0) && nat_lt (get_or POWERS k 0) 1024) refl k h in (
      ltb-true _ _ (and_left (nat_lt 0 (get_or POWERS k 0)) _ both),
      ltb-true _ _ (and_right (nat_lt 0 (get_or POWERS k 0)) _ both),
    )

pub logarithm-lt : (e : ℕ) → e < 1024 → get_or LOGARITHMS e 0 < 1023
logarithm-lt e h = ltb-true _ _ (each_below-at 1024 (λ e. nat_lt (get_or LOGARITHMS e 0) 1023) refl e h)

pub sum-lt : (e x : ℕ) → e < 1024 → x < 1023 → get_or LOGARITHMS e 0 + x < 2046
sum-lt e x he hx = omega (arith, logarithm-lt e he, hx)

pub logarithm-le : (e x : ℕ) → e < 1024 → get_or LOGARITHMS e 0 ≤ x + 1023
logarithm-le e x he = omega (arith, logarithm-lt e he)

pub difference-lt : (e d : ℕ) → e < 1024 → get_or LOGARITHMS e 0 + 1023 - get_or LOGARITHMS d 0 < 2046
difference-lt e d he = omega (arith, logarithm-lt e he)

logarithm_read : (k : ℕ) → k < 1023 → get_or LOGARITHMS (get_or POWERS k 0) 0 ≡ k
logarithm_read k h = eqb-true _ _ (each_below-at 1023 (λ k. get_or LOGARITHMS (get_or POWERS k 0) 0 == k) refl k h)

power_back : (e : ℕ) → 0 < e → e < 1024 → get_or POWERS (get_or LOGARITHMS e 0) 0 ≡ e
power_back zero some h = absurd (omega arith)
power_back (suc e) some h =
    eqb-true _ _ (each_below-at 1023 (λ e. get_or POWERS (get_or LOGARITHMS (suc e) 0) 0 == suc e) refl e (omega arith))

-- each number but zero is a power
pub by_logarithm : (e : ℕ) → 0 < e → e < 1024 → pair_at e 0 ≡ power_of (get_or LOGARITHMS e 0)
by_logarithm e some h =
    sym (ap (λ (n : ℕ). pair_at n 0) (power_back e some h)) ∙ power_read (get_or LOGARITHMS e 0) (logarithm-lt e h)

-- only the remainder of an exponent counts
power_of-mod : (n : ℕ) → power_of (n % 1023) ≡ power_of n
power_of-mod n = power_mod is_field base n 1023 base-order.power_is_one

-- the number of a power
pub number_of_power : (e n : ℕ) → e < 1024 → pair_at e 0 ≡ power_of n → e ≡ get_or POWERS (n % 1023) 0
number_of_power e n h is =
    let below : n % 1023 < 1023 = omega arith in
    pair-injective e (get_or POWERS (n % 1023) 0) h (power-lt (n % 1023) below).1
    (is ∙ sym (power_of-mod n) ∙ sym (power_read (n % 1023) below))

pub logarithm_is : (e n : ℕ) → e < 1024 → pair_at e 0 ≡ power_of n → (0 < e) × (get_or LOGARITHMS e 0 ≡ n % 1023)
logarithm_is e n h is =
    let below : n % 1023 < 1023 = omega arith in
    let same = number_of_power e n h is in
    let some = (power-lt (n % 1023) below).0 in (
      omega (arith, same, some),
      ap (λ (m : ℕ). get_or LOGARITHMS m 0) same ∙ logarithm_read (n % 1023) below,
    )

-- a product with a power of the base
pub times_power_of : (e x k : ℕ) → 0 < e → e < 1024 → k ≡ (get_or LOGARITHMS e 0 + x) % 1023
    → pair_at (get_or POWERS k 0) 0 ≡ mul (pair_at e 0) (power_of x)
times_power_of e x k some h is =
    let below : k < 1023 = omega (arith, is) in
    power_read k below ∙ ap power_of is ∙ power_of-mod (get_or LOGARITHMS e 0 + x) ∙ power-add is_field base (get_or LOGARITHMS e 0) x
    ∙ ap (λ (y : Fe32Ext 2). mul y (power_of x)) (sym (by_logarithm e some h))

entry_is : (place j e : ℕ) → place < 6 → j < 3 → e < 32 → (nat_lt ((24 + j) * place) 1023
    && same_pair (pair_at (get_or SYNDROMES (32 * place + e) 0) j) (mul (embed (fe32.element e)) (pair_at (get_or POWERS ((24 + j) * place) 0) 0))) ≡ true
unfolding mul product
entry_is place j e hp hj he =
    each_below-at 32 (λ e. nat_lt ((24 + j) * place) 1023
    && same_pair (pair_at (get_or SYNDROMES (32 * place + e) 0) j) (mul (embed (fe32.element e)) (pair_at (get_or POWERS ((24 + j) * place) 0) 0)))
    (each_below-at 3 (λ j. each_below 32 (λ e. nat_lt ((24 + j) * place) 1023
    && same_pair (pair_at (get_or SYNDROMES (32 * place + e) 0) j) (mul (embed (fe32.element e)) (pair_at (get_or POWERS ((24 + j) * place) 0) 0))))
    (each_below-at 6 (λ place. each_below 3 (λ j. each_below 32 (λ e. nat_lt ((24 + j) * place) 1023
    && same_pair (pair_at (get_or SYNDROMES (32 * place + e) 0) j) (mul (embed (fe32.element e)) (pair_at (get_or POWERS ((24 + j) * place) 0) 0)))))
    refl place hp) j hj) e he

-- what an element at a place of a residue adds to the syndromes
pub entry : (place j : ℕ) (x : Fe32) → place < 6 → j < 3 → pair_at (get_or SYNDROMES (32 * place + x.value) 0) j
    ≡ mul (embed x) (power fe1024.ops (power_of (24 + j)) place)
entry place j x hp hj =
    let both = entry_is place j x.value hp hj x.in_field in
    let exponent : (24 + j) * place < 1023 = ltb-true _ _ (and_left (nat_lt ((24 + j) * place) 1023) _ both) in
    let same : x.value % 32 ≡ x.value = omega (arith, x.in_field) in
    same_pair-path _ _ (and_right (nat_lt ((24 + j) * place) 1023) _ both)
    ∙ ap (λ (y : Fe32). mul (embed y) (pair_at (get_or POWERS ((24 + j) * place) 0) 0)) (fe32.path (fe32.element x.value) x same)
    ∙ ap (mul (embed x)) (power_read ((24 + j) * place) exponent ∙ power-mul is_field base (24 + j) place)

-- ---- the syndromes of a residue

module _ {F : Type 0} {o : Ops F} (l : IsField o) where
  six_terms : (y a b c d e f : F)
      → o.add (o.mul a (power o y 0)) (o.add (o.mul b (power o y 1)) (o.add (o.mul c (power o y 2)) (o.add (o.mul d (power o y 3)) (o.add (o.mul e (power o y 4)) (o.mul f (power o y 5))))))
      ≡ o.add a (o.mul y (o.add b (o.mul y (o.add c (o.mul y (o.add d (o.mul y (o.add e (o.mul y (o.add f (o.mul y o.zero)))))))))))
  unfolding power
  six_terms y a b c d e f = simp (ring, l)

-- one of six terms, of the element that is read
abbrev IsTerm : ℕ → ℕ → ℕ → Fe32 → Type 0
IsTerm number place j x = pair_at number j ≡ mul (embed x) (power fe1024.ops (power_of (24 + j)) place)

six_xors : (a b c d e f j : ℕ) → pair_at (bit_xor a (bit_xor b (bit_xor c (bit_xor d (bit_xor e f))))) j
    ≡ add (pair_at a j) (add (pair_at b j) (add (pair_at c j) (add (pair_at d j) (add (pair_at e j) (pair_at f j)))))
six_xors a b c d e f j =
    pair-xor a _ j ∙ ap (add (pair_at a j)) (pair-xor b _ j ∙ ap (add (pair_at b j)) (pair-xor c _ j ∙ ap (add (pair_at c j))
    (pair-xor d _ j ∙ ap (add (pair_at d j)) (pair-xor e f j))))

six_sums : (a b c d e f a' b' c' d' e' f' : Fe32Ext 2) → a ≡ a' → b ≡ b' → c ≡ c' → d ≡ d' → e ≡ e' → f ≡ f'
    → add a (add b (add c (add d (add e f)))) ≡ add a' (add b' (add c' (add d' (add e' f'))))
six_sums a b c d e f a' b' c' d' e' f' ea eb ec ed ee ef = cc

read : (number place j : ℕ) (x y : Fe32) → IsTerm number place j x → x ≡ y → IsTerm number place j y
read number place j x y e same = e ∙ ap (λ (u : Fe32). mul (embed u) (power fe1024.ops (power_of (24 + j)) place)) same

pub syndrome_is : (l : List Fe32) (j a b c d e f : ℕ) (x y z u v w : Fe32) → length l ≡ 6
    → x ≡ get_or l 0 x → y ≡ get_or l 1 y → z ≡ get_or l 2 z → u ≡ get_or l 3 u → v ≡ get_or l 4 v → w ≡ get_or l 5 w
    → IsTerm a 0 j x → IsTerm b 1 j y → IsTerm c 2 j z → IsTerm d 3 j u → IsTerm e 4 j v → IsTerm f 5 j w
    → pair_at (bit_xor a (bit_xor b (bit_xor c (bit_xor d (bit_xor e f))))) j ≡ syndrome l j
syndrome_is [] j a b c d e f x y z u v w size ix iy iz iu iv iw ea eb ec ed ee ef = absurd (omega arith)
syndrome_is (p ∷ []) j a b c d e f x y z u v w size ix iy iz iu iv iw ea eb ec ed ee ef = absurd (omega arith)
syndrome_is (p ∷ q ∷ []) j a b c d e f x y z u v w size ix iy iz iu iv iw ea eb ec ed ee ef = absurd (omega arith)
syndrome_is (p ∷ q ∷ r ∷ []) j a b c d e f x y z u v w size ix iy iz iu iv iw ea eb ec ed ee ef = absurd (omega arith)
syndrome_is (p ∷ q ∷ r ∷ s ∷ []) j a b c d e f x y z u v w size ix iy iz iu iv iw ea eb ec ed ee ef = absurd (omega arith)
syndrome_is (p ∷ q ∷ r ∷ s ∷ t ∷ []) j a b c d e f x y z u v w size ix iy iz iu iv iw ea eb ec ed ee ef = absurd (omega arith)
syndrome_is (p ∷ q ∷ r ∷ s ∷ t ∷ g ∷ h ∷ more) j a b c d e f x y z u v w size ix iy iz iu iv iw ea eb ec ed ee ef = absurd (omega arith)
syndrome_is (p ∷ q ∷ r ∷ s ∷ t ∷ g ∷ []) j a b c d e f x y z u v w size ix iy iz iu iv iw ea eb ec ed ee ef =
    six_xors a b c d e f j
    ∙ six_sums _ _ _ _ _ _ _ _ _ _ _ _ (read a 0 j x p ea ix) (read b 1 j y q eb iy) (read c 2 j z r ec iz)
    (read d 3 j u s ed iu) (read e 4 j v t ee iv) (read f 5 j w g ef iw)
    ∙ six_terms is_field (power_of (24 + j)) (embed p) (embed q) (embed r) (embed s) (embed t) (embed g)
