-- What is left of numbers adds up, and rows forget what was put in.
use lib.Bits.{xor_assoc, xor_block, xor_comm, xor_self, xor_zero_l}
use Rattle.std.specs.Prelude.{bit_xor, cond, ◌==◌}
use Rattle.std.proofs.Common.{◌≡◌, ℕ, zero, suc, ◌+◌, ◌-◌, ◌*◌, ◌/◌, ◌%◌, ◌^◌, ◌<◌, ◌≤◌, List, [], ◌∷◌, ◌++◌, sym, ap, subst, ◌∙◌, refl, arith, lt_of_lt_of_le}
use Rattle.std.proofs.lemmas.Nat.Bits.{bit_at_xor}
use Rattle.std.proofs.Math.Nat.{zero-div}
use Rattle.std.proofs.Math.Pow.{pow-add, pow_mono}
use Rattle.bech32_near.specs.search.Sketch.{IsForgotten, cleared, packed_by, cleared_by}

-- ---- one row

by_bits : (x y z a b r : ℕ) → x < 2 → y < 2 → z ≡ (x + y) % 2
    → cond (z == 1) (bit_xor (bit_xor a b) r) (bit_xor a b) ≡ bit_xor (cond (x == 1) (bit_xor a r) a) (cond (y == 1) (bit_xor b r) b)
by_bits zero zero z a b r lx ly e = ap (λ u. cond (u == 1) (bit_xor (bit_xor a b) r) (bit_xor a b)) e
by_bits zero (suc zero) z a b r lx ly e = ap (λ u. cond (u == 1) (bit_xor (bit_xor a b) r) (bit_xor a b)) e ∙ xor_assoc a b r
by_bits (suc zero) zero z a b r lx ly e =
    ap (λ u. cond (u == 1) (bit_xor (bit_xor a b) r) (bit_xor a b)) e
    ∙ xor_assoc a b r ∙ ap (bit_xor a) (xor_comm b r) ∙ sym (xor_assoc a r b)
by_bits (suc zero) (suc zero) z a b r lx ly e =
    ap (λ u. cond (u == 1) (bit_xor (bit_xor a b) r) (bit_xor a b)) e
    ∙ ap (bit_xor a) (sym (xor_zero_l b) ∙ ap (λ u. bit_xor u b) (sym (xor_self r)) ∙ xor_assoc r r b ∙ ap (bit_xor r) (xor_comm r b))
    ∙ sym (xor_assoc a r (bit_xor b r))
by_bits (suc (suc x)) y z a b r lx ly e = absurd (omega (arith, lx))
by_bits zero (suc (suc y)) z a b r lx ly e = absurd (omega (arith, ly))
by_bits (suc zero) (suc (suc y)) z a b r lx ly e = absurd (omega (arith, ly))

cleared-xor : (row : ℕ × ℕ) (a b : ℕ) → cleared row (bit_xor a b) ≡ bit_xor (cleared row a) (cleared row b)
cleared-xor row a b =
    let i : ℕ = row.0 % 64 in
    by_bits (a / 2 ^ i % 2) (b / 2 ^ i % 2) (bit_xor a b / 2 ^ i % 2) a b row.1 (omega arith) (omega arith) (bit_at_xor a b i)

cleared-zero : (r : ℕ × ℕ) → cleared r 0 ≡ 0
cleared-zero r = ap (λ u. cond (u % 2 == 1) (bit_xor 0 r.1) 0) (zero-div (2 ^ (r.0 % 64)))

-- ---- all of them

pub cleared_by-xor : (rows : List (ℕ × ℕ)) (a b : ℕ) → cleared_by rows (bit_xor a b) ≡ bit_xor (cleared_by rows a) (cleared_by rows b)
cleared_by-xor [] a b = refl
cleared_by-xor (row ∷ rows) a b = ap (cleared_by rows) (cleared-xor row a b) ∙ cleared_by-xor rows (cleared row a) (cleared row b)

pub cleared_by-push : (rows : List (ℕ × ℕ)) (row : ℕ × ℕ) (n : ℕ) → cleared_by (rows ++ row ∷ []) n ≡ cleared row (cleared_by rows n)
cleared_by-push [] row n = refl
cleared_by-push (first ∷ rows) row n = cleared_by-push rows row (cleared first n)

-- a row of what is left, by one of its bits
pub forgotten : (old new : List (ℕ × ℕ)) (number left bit : ℕ) → left ≡ cleared_by old number → bit < 64 → left / 2 ^ bit % 2 ≡ 1
    → new ≡ old ++ (bit, left) ∷ [] → IsForgotten number old new
forgotten old new number left bit is within set e = (
  ap (λ rows. cleared_by rows number) e ∙ cleared_by-push old (bit, left) number ∙ ap (cleared (bit, left)) (sym is)
      ∙ ap (λ u. cond (left / 2 ^ u % 2 == 1) (bit_xor left left) left) low
      ∙ ap (λ u. cond (u == 1) (bit_xor left left) left) set
      ∙ xor_self left,
  λ other none. ap (λ rows. cleared_by rows other) e ∙ cleared_by-push old (bit, left) other ∙ ap (cleared (bit, left)) none ∙ cleared-zero (bit, left),
)
  where
    low : bit % 64 ≡ bit
    low = omega (arith, within)

-- ---- packed digits

pub packed_by-same : (size : ℕ) (f g : ℕ → ℕ) (i : ℕ) → ((n : ℕ) → f n ≡ g n) → packed_by size f i ≡ packed_by size g i
packed_by-same size f g zero e = refl
packed_by-same size f g (suc i) e = ap (λ u. u * 32 + f (size - 1 - i)) (packed_by-same size f g i e) ∙ ap (λ u. packed_by size g i * 32 + u) (e (size - 1 - i))

pub packed_by-below : (size : ℕ) (f : ℕ → ℕ) (i : ℕ) → ((n : ℕ) → f n < 32) → packed_by size f i < 2 ^ (5 * i)
packed_by-below size f zero low = omega arith
packed_by-below size f (suc i) low =
    let next : 5 * suc i ≡ 5 * i + 5 = omega arith in
    let power : 2 ^ (5 * suc i) ≡ 2 ^ (5 * i) * 32 = ap (λ j. 2 ^ j) next ∙ pow-add 2 (5 * i) 5 in
    omega (arith, power, packed_by-below size f i low, low (size - 1 - i))

pub packed_by-xor : (size : ℕ) (f g h : ℕ → ℕ) (i : ℕ) → ((n : ℕ) → f n < 32) → ((n : ℕ) → g n < 32) → ((n : ℕ) → h n ≡ bit_xor (f n) (g n))
    → packed_by size h i ≡ bit_xor (packed_by size f i) (packed_by size g i)
packed_by-xor size f g h zero lf lg e = refl
packed_by-xor size f g h (suc i) lf lg e =
    let n : ℕ = size - 1 - i in
    ap (λ u. u * 32 + h n) (packed_by-xor size f g h i lf lg e)
    ∙ ap (λ u. bit_xor (packed_by size f i) (packed_by size g i) * 32 + u) (e n)
    ∙ sym (xor_block 5 (packed_by size f i) (packed_by size g i) (f n) (g n) (lf n) (lg n))

-- one digit more
pub packed_by-next : (size : ℕ) (f : ℕ → ℕ) (i number digit : ℕ) → number ≡ packed_by size f i → digit ≡ f (size - 1 - i) → number * 32 + digit ≡ packed_by size f (i + 1)
packed_by-next size f i number digit e d =
    let next : i + 1 ≡ suc i = omega arith in
    ap (λ n. n * 32 + digit) e ∙ ap (λ n. packed_by size f i * 32 + n) d ∙ sym (ap (packed_by size f) next)

-- there is room for one more
pub packed_by-room : (size : ℕ) (f : ℕ → ℕ) (i number : ℕ) → ((n : ℕ) → f n < 32) → i < 12 → number ≡ packed_by size f i → number < 2 ^ 55
packed_by-room size f i number low few e =
    let most : 5 * i ≤ 55 = omega (arith, few) in
    subst (λ n. n < 2 ^ 55) (sym e) (lt_of_lt_of_le (packed_by-below size f i low) (pow_mono most))
