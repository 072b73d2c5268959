-- The remainder that elements leave.
use Rattle.std.specs.Prelude.{◌≡◌, ◌<◌, ◌≤◌, ◌*◌, ◌^◌, ℕ, List, [], ◌∷◌, length, map, All, Any}
use Rattle.bech32_gf.specs.Fe32.{element, one}
use Rattle.bech32_gf.specs.declared.gf32.Fe32.{Fe32}
use Rattle.bech32_poly.specs.Polynomial.{appended}
use Rattle.bech32_checksum.specs.Code.{Code, IsResidueOf}
use Rattle.bech32_calls.specs.declared.refusal.Refusal.{Refusal}
use Rattle.bech32_calls.specs.declared.refusal.Refusal.TheVariants.{BadNumber}

-- from its highest coefficient: one, and the elements of values
abbrev pub run_polynomial : List ℕ → List Fe32
run_polynomial values = appended (one ∷ []) (map element values)

-- all values are elements, and the packed remainder is that of their polynomial, with no
-- bit beyond its coefficients
pub record IsRunResidue {R : Type 0} (number : R → ℕ)
    (values : List ℕ) (residue : R) (code : Code) : Type 0 where
  pub elements : All (λ x. x ≤ 31) values
  pub residue_is : IsResidueOf number code residue (run_polynomial values)
  pub fits : number residue < 2 ^ (5 * length code.generator)

-- why there is none: a value is not an element
abbrev pub IsRunFault : List ℕ → Code → Refusal → Type 0
IsRunFault values code e = Any (λ x. 31 < x) values × (e ≡ BadNumber)
