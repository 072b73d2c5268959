-- Where elimination finds no values for rows, none have the residue as their sum.
use Rattle.std.specs.Prelude.{◌≢◌, get_or}
use Rattle.std.proofs.Common.{◌≡◌, ◌<◌, ◌*◌, ◌/◌, ◌^◌, ℕ, List, [], ◌∷◌, length, refl, sym, ap, subst, ◌∙◌, arith, bit_xor}
use Rattle.std.proofs.lemmas.Nat.{xor_lt}
use Rattle.bech32_gf.specs.Fe32 as fe32
use Rattle.bech32_gf.specs.declared.gf32.Fe32.{Fe32}
use Rattle.bech32_gf.specs.Field.{Ops, IsField}
use Rattle.bech32_gf.specs.laws.Fe32Laws.{is_field}
use Rattle.bech32_gf.specs.laws.Ring.{ring}
use Rattle.bech32_poly.specs.Pattern.{pattern_polynomial}
use Rattle.bech32_poly.specs.Polynomial.{add, coefficient, scale}
use Rattle.bech32_poly.proofs.Lists.{coefficient-add, coefficient-scale, length-scale, same_cons}
use Rattle.bech32_poly.proofs.Remainder.{remainder_of-itself, remainder_of-same, remainder_unique}
use Rattle.bech32_checksum.specs.Code.{bech32}
use Rattle.bech32_checksum.specs.OneError.{IsLeftBy, packed, valued}
use Rattle.bech32_checksum.specs.Packed.{digit_of, digits}
use Rattle.bech32_checksum.proofs.DigitRows.{coefficient-below, digits-injective}
use Rattle.bech32_checksum.proofs.Digits.{length-tabulate}
use Rattle.bech32_checksum.proofs.Erased.{HasRow, added, digits-packed_six, first_and_others}
use Rattle.bech32_checksum.proofs.OneError.{left_is, remainder_is, row}

pub packed-lt : (p : List Fe32) → length p ≡ 6 → packed p < 2 ^ 30
packed-lt [] size = absurd (omega arith)
packed-lt (a ∷ []) size = absurd (omega arith)
packed-lt (a ∷ b ∷ []) size = absurd (omega arith)
packed-lt (a ∷ b ∷ c ∷ []) size = absurd (omega arith)
packed-lt (a ∷ b ∷ c ∷ d ∷ []) size = absurd (omega arith)
packed-lt (a ∷ b ∷ c ∷ d ∷ e ∷ []) size = absurd (omega arith)
packed-lt (a ∷ b ∷ c ∷ d ∷ e ∷ f ∷ g ∷ more) size = absurd (omega arith)
packed-lt (a ∷ b ∷ c ∷ d ∷ e ∷ f ∷ []) size = omega (arith, a.in_field, b.in_field, c.in_field, d.in_field, e.in_field, f.in_field)

pub digit_at : (n k : ℕ) → k < 6 → coefficient fe32.ops (digits 6 n) k ≡ digit_of n k
digit_at n k h = coefficient-below 6 (digit_of n) k h

pub six : (n : ℕ) → length (digits 6 n) ≡ 6
six n = length-tabulate 6 (digit_of n)

pub both_leave : (l : List Fe32) (i j : ℕ) (v w : Fe32) → length l ≡ 6 → i < 1023 → j < 1023 → IsLeftBy bech32.generator l ((i, v) ∷ (j, w) ∷ [])
    → l ≡ add fe32.ops (scale fe32.ops v (digits 6 (row i))) (scale fe32.ops w (digits 6 (row j)))
both_leave l i j v w size hi hj left =
    sym (remainder_of-itself is_field bech32.generator l size)
    ∙ sym (remainder_of-same is_field bech32.generator left.0 l left.2)
    ∙ remainder_of-itself is_field bech32.generator left.0 left.1.short
    ∙ remainder_unique is_field bech32.generator (pattern_polynomial fe32.ops ((i, v) ∷ (j, w) ∷ [])) left.0 left.1
    ∙ first_and_others i v ((j, w) ∷ []) hi
    ∙ ap (add fe32.ops (scale fe32.ops v (digits 6 (row i)))) (remainder_is j w hj)

-- ---- one row

packed-digits : (n : ℕ) → n < 2 ^ 30 → packed (digits 6 n) ≡ n
packed-digits n h = digits-injective 6 (packed (digits 6 n)) n (packed-lt (digits 6 n) (six n)) h (digits-packed_six (packed (digits 6 n)) (digits 6 n) (six n) refl)

-- a factor by which the digit there is multiplied
module _ {F : Type 0} {f : Ops F} (fl : IsField f) where
  factor_is : (v d : F) → d ≢ f.zero → f.mul (f.mul v d) (f.inv d) ≡ v
  factor_is v d n = fl.mul_assoc v d (f.inv d) ∙ ap (f.mul v) (fl.mul_inv d n) ∙ fl.mul_one v

  two_parts : (v w x y i : F) → f.mul (f.add (f.mul v x) (f.mul w y)) i ≡ f.add (f.mul v (f.mul x i)) (f.mul (f.mul w y) i)
  two_parts v w x y i = simp (ring, fl)

  three_parts : (v w u x z y i : F)
      → f.mul (f.add (f.mul v x) (f.add (f.mul w z) (f.mul u y))) i ≡ f.add (f.mul v (f.mul x i)) (f.add (f.mul w (f.mul z i)) (f.mul (f.mul u y) i))
  three_parts v w u x z y i = simp (ring, fl)

  left_of_two : (v w b x y : F) → f.add (f.add (f.mul v x) (f.mul w y)) (f.neg (f.mul (f.add (f.mul v b) w) y)) ≡ f.mul v (f.add x (f.neg (f.mul b y)))
  left_of_two v w b x y = simp (ring, fl)

  left_of_three : (v w u b d x z y : F)
      → f.add (f.add (f.mul v x) (f.add (f.mul w z) (f.mul u y))) (f.neg (f.mul (f.add (f.mul v b) (f.add (f.mul w d) u)) y))
      ≡ f.add (f.mul v (f.add x (f.neg (f.mul b y)))) (f.mul w (f.add z (f.neg (f.mul d y))))
  left_of_three v w u b d x z y = simp (ring, fl)

pub none_at_one : (r s m k : ℕ) (x : Fe32) → r < 2 ^ 30 → k < 6 → digit_of s k ≢ fe32.zero → x ≡ fe32.mul (digit_of r k) (fe32.inv (digit_of s k))
    → m ≡ packed (scale fe32.ops x (digits 6 s)) → m ≢ r → (v : Fe32) → digits 6 r ≡ scale fe32.ops v (digits 6 s) → ⊥
none_at_one r s m k x small within some is multiple differ v e =
    let there : digit_of r k ≡ fe32.mul v (digit_of s k) =
    sym (digit_at r k within) ∙ ap (λ p. coefficient fe32.ops p k) e ∙ coefficient-scale is_field v (digits 6 s) k ∙ ap (fe32.mul v) (digit_at s k within) in
    let same : x ≡ v = is ∙ ap (λ d. fe32.mul d (fe32.inv (digit_of s k))) there ∙ factor_is is_field v (digit_of s k) some in
    differ (multiple ∙ ap (λ c. packed (scale fe32.ops c (digits 6 s))) same ∙ ap packed (sym e) ∙ packed-digits r small)

-- ---- two rows and three, where a multiple of the last one is taken from the others

two_left : (p q : List Fe32) (v w b : Fe32) → length p ≡ length q
    → add fe32.ops (add fe32.ops (scale fe32.ops v p) (scale fe32.ops w q)) (scale fe32.ops (fe32.add (fe32.mul v b) w) q) ≡ scale fe32.ops v (add fe32.ops p (scale fe32.ops b q))
two_left [] [] v w b s = refl
two_left [] (y ∷ q) v w b s = absurd (omega arith)
two_left (x ∷ p) [] v w b s = absurd (omega arith)
two_left (x ∷ p) (y ∷ q) v w b s = same_cons _ _ _ _ (left_of_two is_field v w b x y) (two_left p q v w b (omega arith))

three_left : (p s q : List Fe32) (v w u b d : Fe32) → length p ≡ length q → length s ≡ length q
    → add fe32.ops (add fe32.ops (scale fe32.ops v p) (add fe32.ops (scale fe32.ops w s) (scale fe32.ops u q)))
    (scale fe32.ops (fe32.add (fe32.mul v b) (fe32.add (fe32.mul w d) u)) q)
    ≡ add fe32.ops (scale fe32.ops v (add fe32.ops p (scale fe32.ops b q))) (scale fe32.ops w (add fe32.ops s (scale fe32.ops d q)))
three_left [] [] [] v w u b d h k = refl
three_left [] s (y ∷ q) v w u b d h k = absurd (omega arith)
three_left (x ∷ p) s [] v w u b d h k = absurd (omega arith)
three_left [] (z ∷ s) [] v w u b d h k = absurd (omega arith)
three_left (x ∷ p) [] (y ∷ q) v w u b d h k = absurd (omega arith)
three_left (x ∷ p) (z ∷ s) (y ∷ q) v w u b d h k = same_cons _ _ _ _ (left_of_three is_field v w u b d x z y) (three_left p s q v w u b d (omega arith) (omega arith))

pub none_at_two : (r s q m n k : ℕ) (a b : Fe32) → k < 6 → digit_of q k ≢ fe32.zero → a ≡ fe32.mul (digit_of r k) (fe32.inv (digit_of q k))
    → b ≡ fe32.mul (digit_of s k) (fe32.inv (digit_of q k))
    → m ≡ packed (scale fe32.ops a (digits 6 q)) → n ≡ packed (scale fe32.ops b (digits 6 q))
    → ((v : Fe32) → digits 6 (bit_xor r m) ≡ scale fe32.ops v (digits 6 (bit_xor s n)) → ⊥)
    → (v w : Fe32) → digits 6 r ≡ add fe32.ops (scale fe32.ops v (digits 6 s)) (scale fe32.ops w (digits 6 q)) → ⊥
none_at_two r s q m n k a b within some ia ib em en none v w e =
    let i : Fe32 = fe32.inv (digit_of q k) in
    let there : digit_of r k ≡ fe32.add (fe32.mul v (digit_of s k)) (fe32.mul w (digit_of q k)) =
    sym (digit_at r k within) ∙ ap (λ p. coefficient fe32.ops p k) e
    ∙ coefficient-add is_field (scale fe32.ops v (digits 6 s)) (scale fe32.ops w (digits 6 q)) k
    ∙ ap (λ x. fe32.add x (coefficient fe32.ops (scale fe32.ops w (digits 6 q)) k)) (coefficient-scale is_field v (digits 6 s) k ∙ ap (fe32.mul v) (digit_at s k within))
    ∙ ap (fe32.add (fe32.mul v (digit_of s k))) (coefficient-scale is_field w (digits 6 q) k ∙ ap (fe32.mul w) (digit_at q k within)) in
    let factor : a ≡ fe32.add (fe32.mul v b) w =
    ia ∙ ap (λ x. fe32.mul x (fe32.inv (digit_of q k))) there
    ∙ two_parts is_field v w (digit_of s k) (digit_of q k) (fe32.inv (digit_of q k))
    ∙ ap (λ x. fe32.add (fe32.mul v x) (fe32.mul (fe32.mul w (digit_of q k)) (fe32.inv (digit_of q k)))) (sym ib)
    ∙ ap (fe32.add (fe32.mul v b)) (factor_is is_field w (digit_of q k) some) in
    none v
    (added r m q a em
    ∙ ap (λ p. add fe32.ops p (scale fe32.ops a (digits 6 q))) e
    ∙ ap (λ x. add fe32.ops (add fe32.ops (scale fe32.ops v (digits 6 s)) (scale fe32.ops w (digits 6 q))) (scale fe32.ops x (digits 6 q))) factor
    ∙ two_left (digits 6 s) (digits 6 q) v w b (six s ∙ sym (six q))
    ∙ ap (scale fe32.ops v) (sym (added s n q b en)))

pub none_at_three : (r s t q m n o k : ℕ) (a b d : Fe32) → k < 6 → digit_of q k ≢ fe32.zero → a ≡ fe32.mul (digit_of r k) (fe32.inv (digit_of q k))
    → b ≡ fe32.mul (digit_of s k) (fe32.inv (digit_of q k)) → d ≡ fe32.mul (digit_of t k) (fe32.inv (digit_of q k))
    → m ≡ packed (scale fe32.ops a (digits 6 q)) → n ≡ packed (scale fe32.ops b (digits 6 q)) → o ≡ packed (scale fe32.ops d (digits 6 q))
    → ((v w : Fe32) → digits 6 (bit_xor r m) ≡ add fe32.ops (scale fe32.ops v (digits 6 (bit_xor s n))) (scale fe32.ops w (digits 6 (bit_xor t o))) → ⊥)
    → (v w u : Fe32) → digits 6 r ≡ add fe32.ops (scale fe32.ops v (digits 6 s)) (add fe32.ops (scale fe32.ops w (digits 6 t)) (scale fe32.ops u (digits 6 q))) → ⊥
none_at_three r s t q m n o k a b d within some ia ib id em en eo none v w u e =
    let there : digit_of r k ≡ fe32.add (fe32.mul v (digit_of s k)) (fe32.add (fe32.mul w (digit_of t k)) (fe32.mul u (digit_of q k))) =
    sym (digit_at r k within) ∙ ap (λ p. coefficient fe32.ops p k) e
    ∙ coefficient-add is_field (scale fe32.ops v (digits 6 s)) (add fe32.ops (scale fe32.ops w (digits 6 t)) (scale fe32.ops u (digits 6 q))) k
    ∙ ap (λ x. fe32.add x (coefficient fe32.ops (add fe32.ops (scale fe32.ops w (digits 6 t)) (scale fe32.ops u (digits 6 q))) k))
    (coefficient-scale is_field v (digits 6 s) k ∙ ap (fe32.mul v) (digit_at s k within))
    ∙ ap (fe32.add (fe32.mul v (digit_of s k)))
    (coefficient-add is_field (scale fe32.ops w (digits 6 t)) (scale fe32.ops u (digits 6 q)) k
    ∙ ap (λ x. fe32.add x (coefficient fe32.ops (scale fe32.ops u (digits 6 q)) k)) (coefficient-scale is_field w (digits 6 t) k ∙ ap (fe32.mul w) (digit_at t k within))
    ∙ ap (fe32.add (fe32.mul w (digit_of t k))) (coefficient-scale is_field u (digits 6 q) k ∙ ap (fe32.mul u) (digit_at q k within))) in
    let factor : a ≡ fe32.add (fe32.mul v b) (fe32.add (fe32.mul w d) u) =
    ia ∙ ap (λ x. fe32.mul x (fe32.inv (digit_of q k))) there
    ∙ three_parts is_field v w u (digit_of s k) (digit_of t k) (digit_of q k) (fe32.inv (digit_of q k))
    ∙ ap (λ x. fe32.add (fe32.mul v x) (fe32.add (fe32.mul w (fe32.mul (digit_of t k) (fe32.inv (digit_of q k)))) (fe32.mul (fe32.mul u (digit_of q k)) (fe32.inv (digit_of q k))))) (sym ib)
    ∙ ap (λ x. fe32.add (fe32.mul v b) (fe32.add (fe32.mul w x) (fe32.mul (fe32.mul u (digit_of q k)) (fe32.inv (digit_of q k))))) (sym id)
    ∙ ap (λ x. fe32.add (fe32.mul v b) (fe32.add (fe32.mul w d) x)) (factor_is is_field u (digit_of q k) some) in
    none v w
    (added r m q a em
    ∙ ap (λ p. add fe32.ops p (scale fe32.ops a (digits 6 q))) e
    ∙ ap (λ x. add fe32.ops (add fe32.ops (scale fe32.ops v (digits 6 s)) (add fe32.ops (scale fe32.ops w (digits 6 t)) (scale fe32.ops u (digits 6 q)))) (scale fe32.ops x (digits 6 q))) factor
    ∙ three_left (digits 6 s) (digits 6 t) (digits 6 q) v w u b d (six s ∙ sym (six q)) (six t ∙ sym (six q))
    ∙ ap (λ p. add fe32.ops (scale fe32.ops v p) (scale fe32.ops w (add fe32.ops (digits 6 t) (scale fe32.ops d (digits 6 q))))) (sym (added s n q b en))
    ∙ ap (λ p. add fe32.ops (scale fe32.ops v (digits 6 (bit_xor s n))) (scale fe32.ops w p)) (sym (added t o q d eo)))

-- ---- what no values leave

-- the factor of a row, where a pivot is known by its bits
pub factor_at : (n bit k : ℕ) (x i j : Fe32) → bit ≡ 5 * k → i ≡ j → x ≡ fe32.mul (fe32.element (n / 2 ^ bit)) i → x ≡ fe32.mul (digit_of n k) j
factor_at n bit k x i j at is e = e ∙ ap (λ c. fe32.mul (fe32.element (n / 2 ^ c)) i) at ∙ ap (fe32.mul (digit_of n k)) is

-- of a number of six digits a multiple of a row is taken
pub less_taken : (r m s : ℕ) (a : Fe32) → r < 2 ^ 30 → m ≡ packed (scale fe32.ops a (digits 6 s)) → bit_xor r m < 2 ^ 30
less_taken r m s a small e = xor_lt 30 r m small (subst (λ n. n < 2 ^ 30) (sym e) (packed-lt (scale fe32.ops a (digits 6 s)) (length-scale is_field a (digits 6 s) ∙ six s)))

pub six_packed : (l : List Fe32) (n : ℕ) → length l ≡ 6 → n ≡ packed l → n < 2 ^ 30
six_packed l n size e = subst (λ m. m < 2 ^ 30) (sym e) (packed-lt l size)

one_valued : (i : ℕ) (values : List Fe32) → valued (i ∷ []) values ≡ (i, coefficient fe32.ops values 0) ∷ []
one_valued i [] = refl
one_valued i (v ∷ values) = refl

two_valued : (i j : ℕ) (values : List Fe32) → valued (i ∷ j ∷ []) values ≡ (i, coefficient fe32.ops values 0) ∷ (j, coefficient fe32.ops values 1) ∷ []
two_valued i j [] = refl
two_valued i j (v ∷ []) = refl
two_valued i j (v ∷ w ∷ values) = refl

three_valued : (i j k : ℕ) (values : List Fe32)
    → valued (i ∷ j ∷ k ∷ []) values ≡ (i, coefficient fe32.ops values 0) ∷ (j, coefficient fe32.ops values 1) ∷ (k, coefficient fe32.ops values 2) ∷ []
three_valued i j k [] = refl
three_valued i j k (v ∷ []) = refl
three_valued i j k (v ∷ w ∷ []) = refl
three_valued i j k (v ∷ w ∷ u ∷ values) = refl

all_leave : (l : List Fe32) (i j k : ℕ) (v w u : Fe32) → length l ≡ 6 → i < 1023 → j < 1023 → k < 1023 → IsLeftBy bech32.generator l ((i, v) ∷ (j, w) ∷ (k, u) ∷ [])
    → l ≡ add fe32.ops (scale fe32.ops v (digits 6 (row i))) (add fe32.ops (scale fe32.ops w (digits 6 (row j))) (scale fe32.ops u (digits 6 (row k))))
all_leave l i j k v w u size hi hj hk left =
    sym (remainder_of-itself is_field bech32.generator l size)
    ∙ sym (remainder_of-same is_field bech32.generator left.0 l left.2)
    ∙ remainder_of-itself is_field bech32.generator left.0 left.1.short
    ∙ remainder_unique is_field bech32.generator (pattern_polynomial fe32.ops ((i, v) ∷ (j, w) ∷ (k, u) ∷ [])) left.0 left.1
    ∙ first_and_others i v ((j, w) ∷ (k, u) ∷ []) hi
    ∙ ap (add fe32.ops (scale fe32.ops v (digits 6 (row i))))
    (first_and_others j w ((k, u) ∷ []) hj ∙ ap (add fe32.ops (scale fe32.ops w (digits 6 (row j)))) (remainder_is k u hk))

pub none_of_one : (ls : List ℕ) (l : List Fe32) (n r d : ℕ) → length ls ≡ 1 → length l ≡ 6 → n ≡ packed l → HasRow (get_or ls 0 d) r
    → ((v : Fe32) → digits 6 n ≡ scale fe32.ops v (digits 6 r) → ⊥) → (values : List Fe32) → IsLeftBy bech32.generator l (valued ls values) → ⊥
none_of_one [] l n r d size whole is at none values left = absurd (omega arith)
none_of_one (i ∷ j ∷ more) l n r d size whole is at none values left = absurd (omega arith)
none_of_one (i ∷ []) l n r d size whole is at none values left =
    let v : Fe32 = coefficient fe32.ops values 0 in
    none (coefficient fe32.ops values 0)
    (digits-packed_six n l whole is
    ∙ left_is l i (coefficient fe32.ops values 0) whole at.0 (subst (IsLeftBy bech32.generator l) (one_valued i values) left)
    ∙ ap (λ (x : ℕ). scale fe32.ops (coefficient fe32.ops values 0) (digits 6 x)) (sym at.1))

pub none_of_two : (ls : List ℕ) (l : List Fe32) (n r s d f : ℕ) → length ls ≡ 2 → length l ≡ 6 → n ≡ packed l → HasRow (get_or ls 0 d) r → HasRow (get_or ls 1 f) s
    → ((v w : Fe32) → digits 6 n ≡ add fe32.ops (scale fe32.ops v (digits 6 r)) (scale fe32.ops w (digits 6 s)) → ⊥)
    → (values : List Fe32) → IsLeftBy bech32.generator l (valued ls values) → ⊥
none_of_two [] l n r s d f size whole is at to none values left = absurd (omega arith)
none_of_two (i ∷ []) l n r s d f size whole is at to none values left = absurd (omega arith)
none_of_two (i ∷ j ∷ k ∷ more) l n r s d f size whole is at to none values left = absurd (omega arith)
none_of_two (i ∷ j ∷ []) l n r s d f size whole is at to none values left =
    none (coefficient fe32.ops values 0) (coefficient fe32.ops values 1)
    (digits-packed_six n l whole is
    ∙ both_leave l i j (coefficient fe32.ops values 0) (coefficient fe32.ops values 1) whole at.0 to.0 (subst (IsLeftBy bech32.generator l) (two_valued i j values) left)
    ∙ ap (λ (x : ℕ). add fe32.ops (scale fe32.ops (coefficient fe32.ops values 0) (digits 6 x)) (scale fe32.ops (coefficient fe32.ops values 1) (digits 6 (row j)))) (sym at.1)
    ∙ ap (λ (x : ℕ). add fe32.ops (scale fe32.ops (coefficient fe32.ops values 0) (digits 6 r)) (scale fe32.ops (coefficient fe32.ops values 1) (digits 6 x))) (sym to.1))

pub none_of_three : (ls : List ℕ) (l : List Fe32) (n r s t d f h : ℕ) → length ls ≡ 3 → length l ≡ 6 → n ≡ packed l
    → HasRow (get_or ls 0 d) r → HasRow (get_or ls 1 f) s → HasRow (get_or ls 2 h) t
    → ((v w u : Fe32) → digits 6 n ≡ add fe32.ops (scale fe32.ops v (digits 6 r)) (add fe32.ops (scale fe32.ops w (digits 6 s)) (scale fe32.ops u (digits 6 t))) → ⊥)
    → (values : List Fe32) → IsLeftBy bech32.generator l (valued ls values) → ⊥
none_of_three [] l n r s t d f h size whole is at to by none values left = absurd (omega arith)
none_of_three (i ∷ []) l n r s t d f h size whole is at to by none values left = absurd (omega arith)
none_of_three (i ∷ j ∷ []) l n r s t d f h size whole is at to by none values left = absurd (omega arith)
none_of_three (i ∷ j ∷ k ∷ m ∷ more) l n r s t d f h size whole is at to by none values left = absurd (omega arith)
none_of_three (i ∷ j ∷ k ∷ []) l n r s t d f h size whole is at to by none values left =
    none (coefficient fe32.ops values 0) (coefficient fe32.ops values 1) (coefficient fe32.ops values 2)
    (digits-packed_six n l whole is
    ∙ all_leave l i j k (coefficient fe32.ops values 0) (coefficient fe32.ops values 1) (coefficient fe32.ops values 2) whole at.0 to.0 by.0
    (subst (IsLeftBy bech32.generator l) (three_valued i j k values) left)
    ∙ ap (λ (x : ℕ). add fe32.ops (scale fe32.ops (coefficient fe32.ops values 0) (digits 6 x)) (add fe32.ops (scale fe32.ops (coefficient fe32.ops values 1) (digits 6 (row j))) (scale fe32.ops (coefficient fe32.ops values 2) (digits 6 (row k))))) (sym at.1)
    ∙ ap (λ (x : ℕ). add fe32.ops (scale fe32.ops (coefficient fe32.ops values 0) (digits 6 r)) (add fe32.ops (scale fe32.ops (coefficient fe32.ops values 1) (digits 6 x)) (scale fe32.ops (coefficient fe32.ops values 2) (digits 6 (row k))))) (sym to.1)
    ∙ ap (λ (x : ℕ). add fe32.ops (scale fe32.ops (coefficient fe32.ops values 0) (digits 6 r)) (add fe32.ops (scale fe32.ops (coefficient fe32.ops values 1) (digits 6 s)) (scale fe32.ops (coefficient fe32.ops values 2) (digits 6 x)))) (sym by.1))
