-- What follows of a text that one walk read from the remainder that it leaves.
use Rattle.std.proofs.Common.{◌≡◌, ℕ, ◌≤◌, List, [], length, take, ap, subst, sym, ◌∙◌, arith}
use Rattle.std.proofs.lemmas.List.{get_or_past}
use Rattle.bech32_gf.specs.Fe32 as fe32
use Rattle.bech32_gf.specs.Fe32.{elements_of, ops}
use Rattle.bech32_gf.specs.declared.gf32.Fe32.{Fe32}
use Rattle.bech32_gf.specs.laws.Fe32Laws.{is_field}
use Rattle.bech32_gf.specs.laws.Ring.{neg_unique}
use Rattle.bech32_poly.specs.Division.{remainder_of}
use Rattle.bech32_poly.specs.Polynomial.{IsSamePolynomial, add, coefficient}
use Rattle.bech32_poly.specs.Remainder.{IsRemainder}
use Rattle.bech32_poly.proofs.Lists.{coefficient-add}
use Rattle.bech32_poly.proofs.Remainder.{length-remainder_of, remainder_exists, remainder_of-itself, remainder_of-same}
use Rattle.bech32_poly.proofs.Trimmed.{trimmed_same}
use Rattle.bech32_checksum.specs.Code.{Code}
use Rattle.bech32_checksum.specs.TextPolynomial.{text_polynomial}
use Rattle.bech32_decode.specs.Refusals.{HasLengths}
use Rattle.bech32_decode.specs.Text.{IsText}
use Rattle.bech32_correction.specs.Mistyped.{IsRefusedFor}

-- a remainder is not the target where the target is none
pub other_remainder : (code : Code) (p : List Fe32) → (IsRemainder ops code.generator p code.target → ⊥)
    → remainder_of ops code.generator p ≡ code.target → ⊥
other_remainder code p not same = not (subst (IsRemainder ops code.generator p) same (remainder_exists is_field code.generator p))

-- behind the coefficients of the target and of the remainder there is nothing
nothing_behind : (low remainder target : List Fe32) → length remainder ≡ length low → length target ≡ length low
    → (k : ℕ) → length low ≤ k → coefficient ops (add ops remainder target) k ≡ fe32.zero
nothing_behind low remainder target short size k far =
    coefficient-add is_field remainder target k
    ∙ ap (λ (x : Fe32). fe32.add x (coefficient ops target k)) (get_or_past remainder k fe32.zero (omega arith))
    ∙ ap (fe32.add fe32.zero) (get_or_past target k fe32.zero (omega arith))
    ∙ is_field.add_zero fe32.zero

-- the text is refused for what is left of its remainder
pub refused_by_all : (code : Code) (text hrp data_part : List ℕ) (residue : List Fe32) → IsText text hrp data_part
    → HasLengths code (length text) (length data_part)
    → IsSamePolynomial ops residue (add ops (remainder_of ops code.generator (text_polynomial hrp (elements_of data_part))) code.target)
    → (IsRemainder ops code.generator (text_polynomial hrp (elements_of data_part)) code.target → ⊥)
    → IsRefusedFor code text hrp data_part residue
refused_by_all code text hrp data_part residue is lengths same not =
    let p = text_polynomial hrp (elements_of data_part) in
    record {
      read = record {
        grammar = is;
        text_length = lengths.0;
        data_length = lengths.1;
        remainder = remainder_of ops code.generator p;
        is_remainder = remainder_exists is_field code.generator p;
        residue_is = same;
      };
      not_target = other_remainder code p not;
    }

-- the first coefficients of it are all
pub refused_by_rest : (code : Code) (text hrp data_part : List ℕ) (residue : List Fe32) (n : ℕ) → IsText text hrp data_part
    → HasLengths code (length text) (length data_part) → length code.target ≡ length code.generator → length code.generator ≡ n → n ≤ length residue
    → IsSamePolynomial ops residue (add ops (remainder_of ops code.generator (text_polynomial hrp (elements_of data_part))) code.target)
    → (IsRemainder ops code.generator (text_polynomial hrp (elements_of data_part)) code.target → ⊥)
    → IsRefusedFor code text hrp data_part (take n residue)
refused_by_rest code text hrp data_part residue n is lengths size degree within same not =
    let remainder = remainder_of ops code.generator (text_polynomial hrp (elements_of data_part)) in
    let above : (k : ℕ) → n ≤ k → coefficient ops residue k ≡ fe32.zero =
    λ k far. same k ∙ nothing_behind code.generator remainder code.target (length-remainder_of is_field code.generator (text_polynomial hrp (elements_of data_part))) size k (omega (arith, degree, far)) in
    refused_by_all code text hrp data_part (take n residue) is lengths (λ k. trimmed_same ops residue n within above k ∙ same k) not

-- a residue for which a text is refused is not zero
pub residue_not_zero : (code : Code) (text hrp data_part : List ℕ) (residue : List Fe32) → length code.target ≡ length code.generator
    → IsRefusedFor code text hrp data_part residue → IsSamePolynomial ops residue [] → ⊥
residue_not_zero code text hrp data_part residue size is zero =
    let remainder = is.read.remainder in
    is.not_target (sym (remainder_of-itself is_field code.generator remainder is.read.is_remainder.short)
    ∙ remainder_of-same is_field code.generator remainder code.target (λ k. sym (neg_unique is_field (coefficient ops remainder k) (coefficient ops code.target k)
    (sym (coefficient-add is_field remainder code.target k) ∙ sym (is.read.residue_is k) ∙ zero k)))
    ∙ remainder_of-itself is_field code.generator code.target size)
