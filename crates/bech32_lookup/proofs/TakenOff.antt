-- What is left of a residue of elements where one error is taken off.
use Rattle.std.proofs.Common.{◌≡◌, ◌<◌, ◌≤◌, ◌+◌, ◌*◌, ◌^◌, ℕ, zero, suc, List, [], ◌∷◌, length, slice_set, refl, sym, ap, subst, ◌∙◌, arith}
use Rattle.std.proofs.Math.Decide.{dec_lt}
use Rattle.std.proofs.lemmas.List.{get_or-set_same, get_or-set_other}
use Rattle.bech32_gf.specs.Fe32 as fe32
use Rattle.bech32_gf.specs.declared.gf32.Fe32.{Fe32}
use Rattle.bech32_poly.specs.Pattern.{pattern_polynomial}
use Rattle.bech32_poly.specs.Polynomial.{coefficient}
use Rattle.bech32_poly.specs.Remainder.{IsRemainder}
use Rattle.bech32_checksum.specs.Packed.{digit_of, digits}
use Rattle.bech32_checksum.proofs.DigitRows.{coefficient-digits, digit_of-past}
use Rattle.bech32_lookup.specs.TakenOff.{IsTakenOff}

-- one more value in its place
pub one_more : (xs : List Fe32) (h : ℕ → Fe32) (i : ℕ) (x : Fe32) → i < length xs → x ≡ h i → ((n : ℕ) → n < i → coefficient fe32.ops xs n ≡ h n)
    → (n : ℕ) → n < i + 1 → coefficient fe32.ops (slice_set xs i x) n ≡ h n
one_more xs h i x room is so_far n below = elim (dec_lt n i) [
  | yes less ↦ get_or-set_other xs i n x fe32.zero (λ e. omega (arith, e, less)) ∙ so_far n less
  | no more ↦ (let same : n ≡ i = omega arith in ap (coefficient fe32.ops (slice_set xs i x)) same ∙ get_or-set_same xs i x fe32.zero room ∙ is ∙ ap h (sym same))
]

behind : (p : List Fe32) (n : ℕ) → length p ≤ n → coefficient fe32.ops p n ≡ fe32.zero
behind [] n h = refl
behind (a ∷ p) zero h = absurd (omega arith)
behind (a ∷ p) (suc n) h = behind p n (omega arith)

nothing : (x y : Fe32) → x ≡ fe32.zero → y ≡ fe32.zero → fe32.add x y ≡ fe32.zero
nothing x y e k = ap (λ u. fe32.add u y) e ∙ ap (fe32.add fe32.zero) k ∙ fe32.path (fe32.add fe32.zero fe32.zero) fe32.zero refl

-- all places have what the error leaves taken off
pub taken_off : (g residue left : List Fe32) (error : ℕ × Fe32) (number degree : ℕ) → length g ≡ degree → number < 2 ^ (5 * degree) → degree ≤ 25 → length residue ≤ 25
    → IsRemainder fe32.ops g (pattern_polynomial fe32.ops (error ∷ [])) (digits (length g) number)
    → ((n : ℕ) → n < 25 → coefficient fe32.ops left n ≡ fe32.add (coefficient fe32.ops residue n) (digit_of number n))
    → ((n : ℕ) → 25 ≤ n → coefficient fe32.ops left n ≡ fe32.zero)
    → IsTakenOff fe32.ops g residue error left
taken_off g residue left error number degree size clear few short is read rest = record {
  left = digits (length g) number;
  is_left = is;
  is_rest = λ i. elim (dec_lt i 25) [
    | yes low ↦ read i low ∙ ap (fe32.add (coefficient fe32.ops residue i)) (sym (coefficient-digits (length g) number i within))
    | no high ↦ rest i (omega arith) ∙ sym (nothing _ _ (behind residue i (omega arith)) (coefficient-digits (length g) number i within ∙ digit_of-past degree number i clear (omega arith)))
  ];
}
  where
    within : number < 2 ^ (5 * length g)
    within = subst (λ d. number < 2 ^ (5 * d)) (sym size) clear
