-- What a corrector is asked, and what answers it (BIP-173, Checksum design).
use Rattle.std.specs.Prelude.{ℕ, List, [], ◌∷◌, Option, Some, None}
use Rattle.bech32_gf.specs.Fe32.{ops}
use Rattle.bech32_gf.specs.declared.gf32.Fe32.{Fe32}
use Rattle.bech32_checksum.specs.Code.{Code}
use Rattle.bech32_bch.specs.Listing.{IsListing}
use Rattle.bech32_bch.specs.Pattern.{IsAlone, Mends, Solves}

-- the residue, the number of locations that are searched, and those that are known to be wrong
pub record Question : Type 0 where
  pub residue : List Fe32
  pub window : ℕ
  pub erasures : List ℕ

-- the pattern has the residue as remainder, and twice its errors outside the erasures, with the
-- erasures, are at most the bound
abbrev pub Explains : Code → ℕ → Question → List (ℕ × Fe32) → Type 0
Explains code bound question errors =
    Solves ops code.generator question.residue question.erasures question.window bound errors

-- the listing of the only pattern that explains the residue
pub record IsOnlyListing (code : Code) (bound : ℕ)
    (question : Question) (listing : List (ℕ × Fe32)) : Type 0 where
  pub pattern : List (ℕ × Fe32)
  pub explains : Explains code bound question pattern
  pub lists : IsListing ops question.erasures pattern listing
  pub only : (other : List (ℕ × Fe32)) → Explains code bound question other
      → IsListing ops question.erasures other listing
  pub alone :
      IsAlone ops code.generator question.residue question.erasures question.window pattern
  pub mends : Mends ops code.generator code.target question.residue listing

-- the listing of the only pattern that explains the residue, or None where there is no such pattern
abbrev pub IsAnswerTo : Code → ℕ → Question → Option (List (ℕ × Fe32)) → Type 0
IsAnswerTo code bound question None =
    (errors : List (ℕ × Fe32)) → Explains code bound question errors → ⊥
IsAnswerTo code bound question (Some listing) = IsOnlyListing code bound question listing

-- the listing of one error, or None where there is none
abbrev pub listing_of_one : Option (ℕ × Fe32) → Option (List (ℕ × Fe32))
listing_of_one None = None
listing_of_one (Some error) = Some (error ∷ [])
