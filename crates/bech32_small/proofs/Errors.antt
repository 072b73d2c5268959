-- Errors of a row one after another: what is left of it without the first.
use Rattle.std.proofs.Common.{◌≡◌, ◌<◌, ◌^◌, ℕ, List, ◌∷◌, sym, ap, ◌∙◌, subst, bit_xor}
use Rattle.std.specs.Int.Bits.{xor_assoc, xor_self, xor_zero_r}
use Rattle.std.proofs.lemmas.Nat.{xor_comm}
use Rattle.bech32_gf.specs.Fe32 as fe32
use Rattle.bech32_gf.specs.declared.gf32.Fe32.{Fe32}
use Rattle.bech32_gf.specs.laws.Fe32Laws.{is_field}
use Rattle.bech32_poly.specs.Pattern.{monomial, pattern_polynomial}
use Rattle.bech32_poly.specs.Polynomial.{scale}
use Rattle.bech32_poly.specs.Remainder.{IsRemainder}
use Rattle.bech32_poly.proofs.Remainder.{remainder_exists, remainder_of-scale, remainder_unique}
use Rattle.bech32_checksum.specs.Code.{bech32m}
use Rattle.bech32_checksum.specs.Packed.{IsRowOf, digits}
use Rattle.bech32_small.proofs.Remainders.{Leaves, LeavesErrors, errors-from_leaves, leaves-from_errors, leaves-rest, leaves-sum}

-- an element times a row is what the element times its polynomial leaves
pub leaves-scaled : (row t : ℕ) (v : Fe32) (p : List Fe32) → Leaves row p → IsRowOf 6 (scale fe32.ops v (digits 6 row)) t → Leaves t (scale fe32.ops v p)
leaves-scaled row t v p h is =
    subst (IsRemainder fe32.ops bech32m.generator (scale fe32.ops v p))
    (remainder_of-scale is_field bech32m.generator v p
    ∙ ap (scale fe32.ops v) (sym (remainder_unique is_field bech32m.generator p (digits 6 row) h))
    ∙ sym is.elements_are)
    (remainder_exists is_field bech32m.generator (scale fe32.ops v p))

module _ (row t x : ℕ) (v : Fe32) (rest : List (ℕ × Fe32)) (clear : row < 2 ^ 30) (small : t < 2 ^ 30) (is : Leaves t (monomial fe32.ops x v)) where
  -- without the first error
  pub without_first : LeavesErrors row ((x, v) ∷ rest) → LeavesErrors (bit_xor row t) rest
  without_first h =
      errors-from_leaves (bit_xor row t) rest
      (leaves-rest row t (monomial fe32.ops x v) (pattern_polynomial fe32.ops rest) clear small (leaves-from_errors row ((x, v) ∷ rest) h) is)

  -- and with it
  pub with_first : LeavesErrors (bit_xor row t) rest → LeavesErrors row ((x, v) ∷ rest)
  with_first h =
      let whole : bit_xor t (bit_xor row t) ≡ row =
      xor_comm t (bit_xor row t) ∙ xor_assoc row t t ∙ ap (bit_xor row) (xor_self t) ∙ xor_zero_r row in
      errors-from_leaves row ((x, v) ∷ rest)
      (subst (λ n. Leaves n (pattern_polynomial fe32.ops ((x, v) ∷ rest))) whole
      (leaves-sum t (bit_xor row t) (monomial fe32.ops x v) (pattern_polynomial fe32.ops rest) is (leaves-from_errors (bit_xor row t) rest h)))
