-- Sketches of remainders add up.
use lib.Bits.{xor_self}
use Rattle.std.specs.Prelude.{bit_xor, ◌==◌, Bool, true, false, if◌then◌else◌}
use Rattle.std.proofs.Common.{◌≡◌, ℕ, zero, suc, ◌/◌, ◌%◌, ◌^◌, ◌<◌, List, [], ◌∷◌, length, sym, ap, subst, ◌∙◌, refl, arith}
use Rattle.std.proofs.lemmas.Bool.{eqb-true}
use Rattle.std.proofs.Math.Nat.{div-one}
use Rattle.bech32_gf.specs.Fe32 as fe32
use Rattle.bech32_gf.specs.Fe32.{ops}
use Rattle.bech32_gf.specs.declared.gf32.Fe32.{Fe32}
use Rattle.bech32_gf.specs.laws.Below.{each_below-at}
use Rattle.bech32_gf.specs.laws.Fe32Laws.{is_field}
use Rattle.bech32_poly.specs.Division.{remainder_of}
use Rattle.bech32_poly.specs.Pattern.{monomial, pattern_polynomial}
use Rattle.bech32_poly.specs.Polynomial.{add, coefficient}
use Rattle.bech32_poly.specs.Remainder.{IsRemainder}
use Rattle.bech32_poly.proofs.Lists.{add_comm, coefficient-add}
use Rattle.bech32_poly.proofs.Remainder.{remainder_of-add, remainder_unique}
use Rattle.bech32_checksum.specs.Code.{Code, IsResidueOf}
use Rattle.bech32_checksum.specs.Packed.{HasDigits, digit_of, digits, sum_of_words}
use Rattle.bech32_checksum.specs.laws.PackedLaws.{xor_digits}
use Rattle.bech32_checksum.proofs.DigitRows.{coefficient-digits}
use Rattle.bech32_near.specs.search.Sketch.{packed_by, cleared_by, sketch, sketch_at}
use Rattle.bech32_near.proofs.Sketches.{packed_by-same, packed_by-xor, cleared_by-xor}

module _ (rows : List (ℕ × ℕ)) (size : ℕ) where
  -- lists with the same coefficients have the same sketch
  pub sketch-same : (p q : List Fe32) → ((n : ℕ) → coefficient ops p n ≡ coefficient ops q n) → sketch rows size p ≡ sketch rows size q
  sketch-same p q e = ap (cleared_by rows) (packed_by-same size (λ n. (coefficient ops p n).value) (λ n. (coefficient ops q n).value) size (λ n. ap fe32.value (e n)))

  pub sketch-add : (p q : List Fe32) → sketch rows size (add ops p q) ≡ bit_xor (sketch rows size p) (sketch rows size q)
  sketch-add p q =
      ap (cleared_by rows)
      (packed_by-xor size (λ n. (coefficient ops p n).value) (λ n. (coefficient ops q n).value) (λ n. (coefficient ops (add ops p q) n).value) size
      (λ n. (coefficient ops p n).in_field) (λ n. (coefficient ops q n).in_field) (λ n. ap fe32.value (coefficient-add is_field p q n)))
      ∙ cleared_by-xor rows (packed_by size (λ n. (coefficient ops p n).value) size) (packed_by size (λ n. (coefficient ops q n).value) size)

  -- what a packed remainder leaves
  pub sketch-row : {R : Type 0} (number : R → ℕ) (code : Code) (row : R) (d : ℕ) (p : List Fe32) → length code.generator ≡ d
      → HasDigits d (number row) → IsResidueOf number code row p
      → cleared_by rows (packed_by size (λ n. (digit_of (number row) n).value) size) ≡ sketch rows size (remainder_of ops code.generator p)
  sketch-row number code row d p degree clear is =
      ap (cleared_by rows) (packed_by-same size (λ n. (digit_of (number row) n).value) (λ n. (coefficient ops (remainder_of ops code.generator p) n).value) size (λ n. ap fe32.value (
      sym (coefficient-digits (length code.generator) (number row) n (subst (λ k. HasDigits k (number row)) (sym degree) clear))
      ∙ ap (λ (u : List Fe32). coefficient ops u n) (remainder_unique is_field code.generator p (digits (length code.generator) (number row)) is))))

  module _ (g : List Fe32) where
    -- of the remainder of a polynomial
    abbrev pub left : List Fe32 → ℕ
    left p = sketch rows size (remainder_of ops g p)

    pub left-add : (p q : List Fe32) → left (add ops p q) ≡ bit_xor (left p) (left q)
    left-add p q = ap (sketch rows size) (remainder_of-add is_field g p q) ∙ sketch-add (remainder_of ops g p) (remainder_of ops g q)

    pub left-none : left [] ≡ 0
    left-none = left-add [] [] ∙ xor_self (left [])

    monomial-add : (i : ℕ) (v w : Fe32) → monomial ops i (fe32.add v w) ≡ add ops (monomial ops i v) (monomial ops i w)
    monomial-add zero v w = refl
    monomial-add (suc i) v w = ap (λ (u : Fe32). u ∷ monomial ops i (fe32.add v w)) (sym (is_field.add_zero fe32.zero)) ∙ ap (λ (u : List Fe32). fe32.add fe32.zero fe32.zero ∷ u) (monomial-add i v w)

    pub at-add : (location : ℕ) (v w : Fe32) → sketch_at rows size g location (fe32.add v w) ≡ bit_xor (sketch_at rows size g location v) (sketch_at rows size g location w)
    at-add location v w = ap left (monomial-add location v w) ∙ left-add (monomial ops location v) (monomial ops location w)

    pub at-zero : (location : ℕ) → sketch_at rows size g location fe32.zero ≡ 0
    at-zero location = ap (sketch_at rows size g location) (sym (is_field.add_zero fe32.zero)) ∙ at-add location fe32.zero fe32.zero ∙ xor_self (sketch_at rows size g location fe32.zero)

    -- by the sketches of 1, 2, 4, 8 and 16
    abbrev of_bits : ℕ → ℕ → ℕ
    of_bits location n = sketch_at rows size g location (fe32.element n)

    element-xor : (a b : ℕ) → fe32.element (bit_xor a b) ≡ fe32.add (fe32.element a) (fe32.element b)
    element-xor a b =
        ap fe32.element (sym (div-one (bit_xor a b))) ∙ xor_digits a b (bit_xor a b) refl 0
        ∙ ap (λ u. fe32.add (fe32.element u) (fe32.element (b / 1))) (div-one a) ∙ ap (λ u. fe32.add (fe32.element a) (fe32.element u)) (div-one b)

    of_either : (location n : ℕ) (b : Bool) → (if b then of_bits location n else 0) ≡ of_bits location (if b then n else 0)
    of_either location n true = refl
    of_either location n false = sym (at-zero location)

    of_words : (location n bits : ℕ) → sum_of_words (λ i. of_bits location (2 ^ i)) n bits ≡ of_bits location (sum_of_words (λ i. 2 ^ i) n bits)
    of_words location zero bits = sym (at-zero location)
    of_words location (suc n) bits =
        ap (λ u. bit_xor u (if (bits / 2 ^ n) % 2 == 1 then of_bits location (2 ^ n) else 0)) (of_words location n bits)
        ∙ ap (bit_xor (of_bits location (sum_of_words (λ i. 2 ^ i) n bits))) (of_either location (2 ^ n) ((bits / 2 ^ n) % 2 == 1))
        ∙ sym (ap (sketch_at rows size g location) (element-xor (sum_of_words (λ i. 2 ^ i) n bits) (if (bits / 2 ^ n) % 2 == 1 then 2 ^ n else 0))
        ∙ at-add location (fe32.element (sum_of_words (λ i. 2 ^ i) n bits)) (fe32.element (if (bits / 2 ^ n) % 2 == 1 then 2 ^ n else 0)))

    whole : (v : ℕ) → v < 32 → sum_of_words (λ i. 2 ^ i) 5 v ≡ v
    whole v low = eqb-true _ _ (each_below-at 32 (λ v. sum_of_words (λ i. 2 ^ i) 5 v == v) refl v low)

    words-same : (f h : ℕ → ℕ) (n bits : ℕ) → ((i : ℕ) → i < n → f i ≡ h i) → sum_of_words f n bits ≡ sum_of_words h n bits
    words-same f h zero bits e = refl
    words-same f h (suc n) bits e =
        ap (λ u. bit_xor u (if (bits / 2 ^ n) % 2 == 1 then f n else 0)) (words-same f h n bits (λ i low. e i (omega arith)))
        ∙ ap (λ u. bit_xor (sum_of_words h n bits) (if (bits / 2 ^ n) % 2 == 1 then u else 0)) (e n (omega arith))

    pub by_five : (location : ℕ) (word : ℕ → ℕ) → ((i : ℕ) → i < 5 → word i ≡ sketch_at rows size g location (fe32.element (2 ^ i)))
        → (v : Fe32) → sum_of_words word 5 v.value ≡ sketch_at rows size g location v
    by_five location word is v =
        words-same word (λ i. of_bits location (2 ^ i)) 5 v.value is
        ∙ of_words location 5 v.value
        ∙ ap (of_bits location) (whole v.value v.in_field)
        ∙ ap (sketch_at rows size g location) (fe32.path (fe32.element v.value) v (omega (arith, v.in_field)))

    -- an error's polynomial
    pub one_term : (x : ℕ × Fe32) → pattern_polynomial ops (x ∷ []) ≡ monomial ops x.0 x.1
    one_term x = add_comm is_field (monomial ops x.0 x.1) []

    pub left-cons : (x : ℕ × Fe32) (e : List (ℕ × Fe32)) → left (pattern_polynomial ops (x ∷ e)) ≡ bit_xor (sketch_at rows size g x.0 x.1) (left (pattern_polynomial ops e))
    left-cons x e = left-add (monomial ops x.0 x.1) (pattern_polynomial ops e)

    -- a list with the coefficients of a remainder
    pub left-is : (p r residue : List Fe32) → IsRemainder ops g p r → ((n : ℕ) → coefficient ops r n ≡ coefficient ops residue n) → sketch rows size residue ≡ left p
    left-is p r residue is same = sym (sketch-same r residue same) ∙ ap (sketch rows size) (remainder_unique is_field g p r is)
