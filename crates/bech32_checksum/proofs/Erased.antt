-- Sums of multiples of packed rows, and what elimination makes of them.
use Rattle.std.proofs.Common.{◌≡◌, ◌<◌, ◌+◌, ◌*◌, ◌/◌, ◌%◌, ℕ, List, [], ◌∷◌, length, get_or, refl, sym, ap, ◌∙◌, arith, bit_xor}
use Rattle.std.specs.Int.Bits.{xor_assoc, xor_self, xor_zero_r}
use Rattle.bech32_gf.specs.Fe32 as fe32
use Rattle.bech32_gf.specs.declared.gf32.Fe32.{Fe32}
use Rattle.bech32_gf.specs.laws.Fe32Laws.{is_field}
use Rattle.bech32_poly.specs.Division.{remainder_of}
use Rattle.bech32_poly.specs.Pattern.{monomial, pattern_polynomial}
use Rattle.bech32_poly.specs.Polynomial.{add, scale}
use Rattle.bech32_poly.proofs.Lists.{add_assoc, add_left_comm, length-scale, same_cons, scale-add, scale-add_elements, scale-scale}
use Rattle.bech32_poly.proofs.Remainder.{remainder_of-add, remainder_of-scale, remainder_unique}
use Rattle.bech32_checksum.specs.Code.{bech32}
use Rattle.bech32_checksum.specs.OneError.{IsLeftBy, packed, valued}
use Rattle.bech32_checksum.specs.Packed.{digit_of, digits}
use Rattle.bech32_checksum.specs.laws.PackedLaws.{xor_digits}
use Rattle.bech32_checksum.proofs.DigitRows.{digits-suc}
use Rattle.bech32_checksum.proofs.OneError.{leaves, monomial-scale, remainder_is, row, row_is}
use Rattle.bech32_checksum.proofs.Products.{tabulated}

-- the digits of packed elements are these
pub digits-packed : (p : List Fe32) → digits (length p) (packed p) ≡ p
digits-packed [] = refl
digits-packed (x ∷ p) =
    let low : (x.value + 32 * packed p) / 1 % 32 ≡ x.value = omega (arith, x.in_field) in
    let high : (x.value + 32 * packed p) / 32 ≡ packed p = omega (arith, x.in_field) in
    digits-suc (length p) (packed (x ∷ p))
    ∙ same_cons _ _ _ _ (fe32.path (digit_of (packed (x ∷ p)) 0) x low) (ap (digits (length p)) high ∙ digits-packed p)

pub digits-packed_six : (n : ℕ) (p : List Fe32) → length p ≡ 6 → n ≡ packed p → digits 6 n ≡ p
digits-packed_six n p size e = ap (digits 6) e ∙ ap (λ d. digits d (packed p)) (sym size) ∙ digits-packed p

pub digits-multiple : (n r : ℕ) (v : Fe32) → n ≡ packed (scale fe32.ops v (digits 6 r)) → digits 6 n ≡ scale fe32.ops v (digits 6 r)
digits-multiple n r v e = digits-packed_six n (scale fe32.ops v (digits 6 r)) (length-scale is_field v (digits 6 r)) e

pub digits-xor : (a b : ℕ) → digits 6 (bit_xor a b) ≡ add fe32.ops (digits 6 a) (digits 6 b)
digits-xor a b = tabulated 6 (digit_of (bit_xor a b)) (λ n. fe32.add (digit_of a n) (digit_of b n)) (λ n below. xor_digits a b (bit_xor a b) refl n)

-- a row from which another one was taken
pub back : (r m : ℕ) → digits 6 r ≡ add fe32.ops (digits 6 (bit_xor r m)) (digits 6 m)
back r m =
    ap (digits 6) (sym (xor_zero_r r) ∙ ap (bit_xor r) (sym (xor_self m)) ∙ sym (xor_assoc r m m))
    ∙ digits-xor (bit_xor r m) m

-- of a sum the multiples of q put together
gathered : (v b a : Fe32) (p q : List Fe32) → add fe32.ops (scale fe32.ops v (add fe32.ops p (scale fe32.ops b q))) (scale fe32.ops a q)
    ≡ add fe32.ops (scale fe32.ops v p) (scale fe32.ops (fe32.add (fe32.mul v b) a) q)
gathered v b a p q =
    ap (λ u. add fe32.ops u (scale fe32.ops a q)) (scale-add is_field v p (scale fe32.ops b q) ∙ ap (add fe32.ops (scale fe32.ops v p)) (scale-scale is_field v b q))
    ∙ add_assoc is_field (scale fe32.ops v p) (scale fe32.ops (fe32.mul v b) q) (scale fe32.ops a q)
    ∙ ap (add fe32.ops (scale fe32.ops v p)) (sym (scale-add_elements is_field (fe32.mul v b) a q))

-- a row to which a multiple of another one was added
pub added : (r m s : ℕ) (b : Fe32) → m ≡ packed (scale fe32.ops b (digits 6 s)) → digits 6 (bit_xor r m) ≡ add fe32.ops (digits 6 r) (scale fe32.ops b (digits 6 s))
added r m s b e = digits-xor r m ∙ ap (add fe32.ops (digits 6 r)) (digits-multiple m s b e)

pub one : (r m s : ℕ) (v : Fe32) → m ≡ packed (scale fe32.ops v (digits 6 s)) → m ≡ r → digits 6 r ≡ scale fe32.ops v (digits 6 s)
one r m s v e same = ap (digits 6) (sym same) ∙ digits-multiple m s v e

-- two rows, where a multiple of the second one was taken from the residue and from the first one
pub two : (r p q m n : ℕ) (v a b : Fe32) → m ≡ packed (scale fe32.ops a (digits 6 q)) → n ≡ packed (scale fe32.ops b (digits 6 q))
    → digits 6 (bit_xor r m) ≡ scale fe32.ops v (digits 6 (bit_xor p n))
    → digits 6 r ≡ add fe32.ops (scale fe32.ops v (digits 6 p)) (scale fe32.ops (fe32.add (fe32.mul v b) a) (digits 6 q))
two r p q m n v a b em en e =
    back r m
    ∙ ap (add fe32.ops (digits 6 (bit_xor r m))) (digits-multiple m q a em)
    ∙ ap (λ u. add fe32.ops u (scale fe32.ops a (digits 6 q))) (e ∙ ap (scale fe32.ops v) (added p n q b en))
    ∙ gathered v b a (digits 6 p) (digits 6 q)

-- of two sums the multiples of q put together
gathered_twice : (v w b c a : Fe32) (p s q : List Fe32)
    → add fe32.ops (add fe32.ops (scale fe32.ops v (add fe32.ops p (scale fe32.ops b q))) (scale fe32.ops w (add fe32.ops s (scale fe32.ops c q)))) (scale fe32.ops a q)
    ≡ add fe32.ops (scale fe32.ops v p) (add fe32.ops (scale fe32.ops w s) (scale fe32.ops (fe32.add (fe32.mul v b) (fe32.add (fe32.mul w c) a)) q))
gathered_twice v w b c a p s q =
    let first = scale fe32.ops v (add fe32.ops p (scale fe32.ops b q)) in
    let sum : Fe32 = fe32.add (fe32.mul w c) a in
    add_assoc is_field first (scale fe32.ops w (add fe32.ops s (scale fe32.ops c q))) (scale fe32.ops a q)
    ∙ ap (add fe32.ops first) (gathered w c a s q)
    ∙ add_left_comm is_field first (scale fe32.ops w s) (scale fe32.ops sum q)
    ∙ ap (add fe32.ops (scale fe32.ops w s)) (gathered v b sum p q)
    ∙ add_left_comm is_field (scale fe32.ops w s) (scale fe32.ops v p) (scale fe32.ops (fe32.add (fe32.mul v b) sum) q)

pub three : (r p s q m n k : ℕ) (v w a b c : Fe32) → m ≡ packed (scale fe32.ops a (digits 6 q)) → n ≡ packed (scale fe32.ops b (digits 6 q)) → k ≡ packed (scale fe32.ops c (digits 6 q))
    → digits 6 (bit_xor r m) ≡ add fe32.ops (scale fe32.ops v (digits 6 (bit_xor p n))) (scale fe32.ops w (digits 6 (bit_xor s k)))
    → digits 6 r ≡ add fe32.ops (scale fe32.ops v (digits 6 p)) (add fe32.ops (scale fe32.ops w (digits 6 s)) (scale fe32.ops (fe32.add (fe32.mul v b) (fe32.add (fe32.mul w c) a)) (digits 6 q)))
three r p s q m n k v w a b c em en ek e =
    back r m
    ∙ ap (add fe32.ops (digits 6 (bit_xor r m))) (digits-multiple m q a em)
    ∙ ap (λ u. add fe32.ops u (scale fe32.ops a (digits 6 q)))
    (e ∙ ap (λ u. add fe32.ops (scale fe32.ops v u) (scale fe32.ops w (digits 6 (bit_xor s k)))) (added p n q b en)
    ∙ ap (λ u. add fe32.ops (scale fe32.ops v (add fe32.ops (digits 6 p) (scale fe32.ops b (digits 6 q)))) (scale fe32.ops w u)) (added s k q c ek))
    ∙ gathered_twice v w b c a (digits 6 p) (digits 6 s) (digits 6 q)

-- ---- patterns

-- the remainder of errors is that of the first one and that of the others
pub first_and_others : (i : ℕ) (v : Fe32) (others : List (ℕ × Fe32)) → i < 1023 → remainder_of fe32.ops bech32.generator (pattern_polynomial fe32.ops ((i, v) ∷ others))
    ≡ add fe32.ops (scale fe32.ops v (digits 6 (row i))) (remainder_of fe32.ops bech32.generator (pattern_polynomial fe32.ops others))
first_and_others i v others h =
    remainder_of-add is_field bech32.generator (monomial fe32.ops i v) (pattern_polynomial fe32.ops others)
    ∙ ap (λ u. add fe32.ops u (remainder_of fe32.ops bech32.generator (pattern_polynomial fe32.ops others)))
    (ap (remainder_of fe32.ops bech32.generator) (monomial-scale i v)
    ∙ remainder_of-scale is_field bech32.generator v (monomial fe32.ops i fe32.one)
    ∙ ap (scale fe32.ops v) (sym (remainder_unique is_field bech32.generator (monomial fe32.ops i fe32.one) (digits 6 (row i)) (row_is i h))))

pub one_leaves : (l : List Fe32) (i : ℕ) (v : Fe32) → i < 1023 → l ≡ scale fe32.ops v (digits 6 (row i)) → IsLeftBy bech32.generator l ((i, v) ∷ [])
one_leaves l i v h e = leaves l ((i, v) ∷ []) (e ∙ sym (remainder_is i v h))

pub two_leave : (l : List Fe32) (i j : ℕ) (v w : Fe32) → i < 1023 → j < 1023
    → l ≡ add fe32.ops (scale fe32.ops v (digits 6 (row i))) (scale fe32.ops w (digits 6 (row j)))
    → IsLeftBy bech32.generator l ((i, v) ∷ (j, w) ∷ [])
two_leave l i j v w hi hj e =
    leaves l ((i, v) ∷ (j, w) ∷ [])
    (e ∙ ap (add fe32.ops (scale fe32.ops v (digits 6 (row i)))) (sym (remainder_is j w hj)) ∙ sym (first_and_others i v ((j, w) ∷ []) hi))

pub three_leave : (l : List Fe32) (i j k : ℕ) (v w u : Fe32) → i < 1023 → j < 1023 → k < 1023
    → l ≡ add fe32.ops (scale fe32.ops v (digits 6 (row i))) (add fe32.ops (scale fe32.ops w (digits 6 (row j))) (scale fe32.ops u (digits 6 (row k))))
    → IsLeftBy bech32.generator l ((i, v) ∷ (j, w) ∷ (k, u) ∷ [])
three_leave l i j k v w u hi hj hk e =
    leaves l ((i, v) ∷ (j, w) ∷ (k, u) ∷ [])
    (e ∙ ap (λ s. add fe32.ops (scale fe32.ops v (digits 6 (row i))) (add fe32.ops (scale fe32.ops w (digits 6 (row j))) s)) (sym (remainder_is k u hk))
    ∙ ap (add fe32.ops (scale fe32.ops v (digits 6 (row i)))) (sym (first_and_others j w ((k, u) ∷ []) hj))
    ∙ sym (first_and_others i v ((j, w) ∷ (k, u) ∷ []) hi))

-- ---- what the code computes

-- a location below the code length, and its row
abbrev pub HasRow : ℕ → ℕ → Type 0
HasRow location r = (location < 1023) × (r ≡ row location)

pub one_found : (ls : List ℕ) (l : List Fe32) (n r : ℕ) (v : Fe32) (rest : List Fe32) (d : ℕ) → length ls ≡ 1 → length l ≡ 6 → n ≡ packed l
    → HasRow (get_or ls 0 d) r → digits 6 n ≡ scale fe32.ops v (digits 6 r)
    → IsLeftBy bech32.generator l (valued ls (v ∷ rest))
one_found [] l n r v rest d size six is at e = absurd (omega arith)
one_found (i ∷ j ∷ more) l n r v rest d size six is at e = absurd (omega arith)
one_found (i ∷ []) l n r v rest d size six is at e =
    one_leaves l i v at.0 (sym (digits-packed_six n l six is) ∙ e ∙ ap (λ s. scale fe32.ops v (digits 6 s)) at.1)

pub two_found : (ls : List ℕ) (l : List Fe32) (n r s : ℕ) (v w : Fe32) (rest : List Fe32) (d f : ℕ) → length ls ≡ 2 → length l ≡ 6 → n ≡ packed l
    → HasRow (get_or ls 0 d) r → HasRow (get_or ls 1 f) s
    → digits 6 n ≡ add fe32.ops (scale fe32.ops v (digits 6 r)) (scale fe32.ops w (digits 6 s))
    → IsLeftBy bech32.generator l (valued ls (v ∷ w ∷ rest))
two_found [] l n r s v w rest d f size six is at to e = absurd (omega arith)
two_found (i ∷ []) l n r s v w rest d f size six is at to e = absurd (omega arith)
two_found (i ∷ j ∷ k ∷ more) l n r s v w rest d f size six is at to e = absurd (omega arith)
two_found (i ∷ j ∷ []) l n r s v w rest d f size six is at to e =
    two_leave l i j v w at.0 to.0
    (sym (digits-packed_six n l six is) ∙ e
    ∙ ap (λ (x : ℕ). add fe32.ops (scale fe32.ops v (digits 6 x)) (scale fe32.ops w (digits 6 s))) at.1
    ∙ ap (λ (x : ℕ). add fe32.ops (scale fe32.ops v (digits 6 (row i))) (scale fe32.ops w (digits 6 x))) to.1)

pub three_found : (ls : List ℕ) (l : List Fe32) (n r s t : ℕ) (v w u : Fe32) (rest : List Fe32) (d f h : ℕ) → length ls ≡ 3 → length l ≡ 6 → n ≡ packed l
    → HasRow (get_or ls 0 d) r → HasRow (get_or ls 1 f) s → HasRow (get_or ls 2 h) t
    → digits 6 n ≡ add fe32.ops (scale fe32.ops v (digits 6 r)) (add fe32.ops (scale fe32.ops w (digits 6 s)) (scale fe32.ops u (digits 6 t)))
    → IsLeftBy bech32.generator l (valued ls (v ∷ w ∷ u ∷ rest))
three_found [] l n r s t v w u rest d f h size six is at to by e = absurd (omega arith)
three_found (i ∷ []) l n r s t v w u rest d f h size six is at to by e = absurd (omega arith)
three_found (i ∷ j ∷ []) l n r s t v w u rest d f h size six is at to by e = absurd (omega arith)
three_found (i ∷ j ∷ k ∷ m ∷ more) l n r s t v w u rest d f h size six is at to by e = absurd (omega arith)
three_found (i ∷ j ∷ k ∷ []) l n r s t v w u rest d f h size six is at to by e =
    three_leave l i j k v w u at.0 to.0 by.0
    (sym (digits-packed_six n l six is) ∙ e
    ∙ ap (λ (x : ℕ). add fe32.ops (scale fe32.ops v (digits 6 x)) (add fe32.ops (scale fe32.ops w (digits 6 s)) (scale fe32.ops u (digits 6 t)))) at.1
    ∙ ap (λ (x : ℕ). add fe32.ops (scale fe32.ops v (digits 6 (row i))) (add fe32.ops (scale fe32.ops w (digits 6 x)) (scale fe32.ops u (digits 6 t)))) to.1
    ∙ ap (λ (x : ℕ). add fe32.ops (scale fe32.ops v (digits 6 (row i))) (add fe32.ops (scale fe32.ops w (digits 6 (row j))) (scale fe32.ops u (digits 6 x)))) by.1)
