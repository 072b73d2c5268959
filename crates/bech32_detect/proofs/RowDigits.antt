-- Rows of digits: read from a packed remainder, of a remainder, and added.
use Rattle.std.specs.Prelude.{bit_xor}
use Rattle.std.proofs.Common.{◌≡◌, ℕ, zero, suc, ◌+◌, ◌-◌, ◌*◌, ◌/◌, ◌%◌, ◌^◌, ◌<◌, ◌≤◌, List, [], length, sym, ap, subst, ◌∙◌, refl, arith, lt_of_lt_of_le}
use Rattle.std.proofs.lemmas.Nat.{xor_lt}
use Rattle.std.proofs.Math.Nat.{div-div-eq-div-mul, div-eq_of_lt, div-le_self, div-one}
use Rattle.std.proofs.Math.Pow.{pow-add, pow_mono, pow_pos}
use Rattle.bech32_gf.specs.Fe32 as fe32
use Rattle.bech32_gf.specs.laws.Fe32Laws.{is_field}
use Rattle.bech32_gf.specs.declared.gf32.Fe32.{Fe32}
use Rattle.bech32_poly.specs.Division.{remainder_of, zeros}
use Rattle.bech32_poly.specs.Polynomial.{add}
use Rattle.bech32_poly.proofs.Lists.{same_cons}
use Rattle.bech32_poly.proofs.Remainder.{remainder_unique}
use Rattle.bech32_checksum.specs.Code.{Code, IsResidueOf}
use Rattle.bech32_checksum.specs.Packed.{digit_of, digits, tabulate, HasDigits, IsRowOf}
use Rattle.bech32_checksum.specs.laws.PackedLaws.{xor_digits}
use Rattle.bech32_checksum.proofs.DigitRows.{digits-injective}
use Rattle.bech32_checksum.proofs.Residue.{zero_is_residue}

-- ---- a number by its digits, from the highest of d

-- what its i highest digits make
abbrev pub highest : ℕ → ℕ → ℕ → ℕ
highest d number i = number / 2 ^ (5 * (d - i))

pub highest-none : (d number : ℕ) → number < 2 ^ (5 * d) → highest d number 0 ≡ 0
highest-none d number h = let whole : d - 0 ≡ d = omega arith in ap (λ k. number / 2 ^ (5 * k)) whole ∙ div-eq_of_lt h

one_digit : (q : ℕ) → q / 32 * 32 + q % 32 ≡ q
one_digit q = omega arith

pub highest-more : (d number i row digit : ℕ) → i < d → row ≡ highest d number i → digit ≡ (digit_of number (d - 1 - i)).value
    → row * 32 + digit ≡ highest d number (i + 1)
highest-more d number i row digit below is here =
    let place : ℕ = d - 1 - i in
    let up : d - i ≡ suc place = omega arith in
    let down : place ≡ d - (i + 1) = omega arith in
    let next : 5 * suc place ≡ 5 * place + 5 = omega arith in
    let power : 2 ^ (5 * suc place) ≡ 2 ^ (5 * place) * 32 = ap (λ j. 2 ^ j) next ∙ pow-add 2 (5 * place) 5 in
    let quotient : ℕ = number / 2 ^ (5 * place) in
    let rest : row ≡ quotient / 32 =
    is ∙ ap (λ k. number / 2 ^ (5 * k)) up ∙ ap (λ k. number / k) power ∙ sym (div-div-eq-div-mul number (2 ^ (5 * place)) 32) in
    let digit_is : digit ≡ quotient % 32 = here in
    ap (λ k. k * 32 + digit) rest ∙ ap (λ k. quotient / 32 * 32 + k) digit_is ∙ one_digit quotient
    ∙ ap (λ k. number / 2 ^ (5 * k)) down

pub highest-all : (d number i : ℕ) → d ≤ i → highest d number i ≡ number
highest-all d number i all = let none : d - i ≡ 0 = omega arith in ap (λ k. number / 2 ^ (5 * k)) none ∙ div-one number

pub highest-lt : (d number i : ℕ) → number < 2 ^ (5 * d) → d ≤ 25 → highest d number i < 2 ^ 125
highest-lt d number i h wide =
    let less : highest d number i ≤ number = div-le_self number (2 ^ (5 * (d - i))) in
    let most : 5 * d ≤ 125 = omega arith in
    let bound : number < 2 ^ 125 = lt_of_lt_of_le h (pow_mono most) in
    omega arith

pub highest-room : (d number i row : ℕ) → i < d → row ≡ highest d number i → number < 2 ^ (5 * d) → d ≤ 25 → row * 32 < 2 ^ 125
highest-room d number i row below is h wide =
    let digit : ℕ = (digit_of number (d - 1 - i)).value in
    let sum : row * 32 + digit ≡ highest d number (i + 1) = highest-more d number i row digit below is refl in
    let less : highest d number (i + 1) < 2 ^ 125 = highest-lt d number (i + 1) h wide in
    omega arith

-- ---- rows of remainders

pub residue_row : {R : Type 0} (number : R → ℕ) (code : Code) (residue : R) (d : ℕ) (p : List Fe32) → length code.generator ≡ d
    → HasDigits d (number residue) → IsResidueOf number code residue p
    → IsRowOf (length code.generator) (remainder_of fe32.ops code.generator p) (number residue)
residue_row number code residue d p size clear is = record {
  elements_are = remainder_unique is_field code.generator p (digits (length code.generator) (number residue)) is;
  clear = subst (λ k. HasDigits k (number residue)) (sym size) clear;
}

pub zero_row : (low : List Fe32) → IsRowOf (length low) (zeros fe32.ops (length low)) 0
zero_row low = record {
  elements_are = remainder_unique is_field low [] (digits (length low) 0) (zero_is_residue low 0 refl);
  clear = pow_pos (5 * length low);
}

-- ---- sums of rows

tabulate-add : (d : ℕ) (f u v : ℕ → Fe32) → ((n : ℕ) → f n ≡ fe32.add (u n) (v n)) → tabulate d f ≡ add fe32.ops (tabulate d u) (tabulate d v)
tabulate-add zero f u v e = refl
tabulate-add (suc d) f u v e = same_cons _ _ _ _ (e 0) (tabulate-add d (λ n. f (suc n)) (λ n. u (suc n)) (λ n. v (suc n)) (λ n. e (suc n)))

pub row_sum : (d : ℕ) (r s : List Fe32) (x y : ℕ) → IsRowOf d r x → IsRowOf d s y → IsRowOf d (add fe32.ops r s) (bit_xor x y)
row_sum d r s x y h k = record {
  elements_are =
      tabulate-add d (digit_of (bit_xor x y)) (digit_of x) (digit_of y) (xor_digits x y (bit_xor x y) refl)
      ∙ ap (λ u. add fe32.ops u (digits d y)) h.elements_are
      ∙ ap (add fe32.ops r) k.elements_are;
  clear = xor_lt (5 * d) x y h.clear k.clear;
}

pub same_row : (d : ℕ) (r : List Fe32) (x y : ℕ) → IsRowOf d r x → IsRowOf d r y → x ≡ y
same_row d r x y h k = digits-injective d x y h.clear k.clear (h.elements_are ∙ sym k.elements_are)
