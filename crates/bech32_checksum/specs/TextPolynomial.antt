-- The polynomial of a human-readable part and elements, and their checksum (BIP-173, Checksum).
use Rattle.std.specs.Prelude.{◌≡◌, ℕ, ◌/◌, List, [], ◌∷◌, ◌++◌, map, length}
use Rattle.bech32_gf.specs.Fe32 as fe32
use Rattle.bech32_gf.specs.declared.gf32.Fe32.{Fe32}
use Rattle.bech32_poly.specs.Polynomial.{appended}
use Rattle.bech32_poly.specs.Remainder.{IsRemainder}
use Rattle.bech32_checksum.specs.Code.{Code}
use Rattle.bech32_hrp.specs.Hrp.{lowered}

-- the elements of a human-readable part: the high bits of each lower-cased byte, a
-- zero, the low bits of each
abbrev pub hrp_elements : List ℕ → List Fe32
hrp_elements hrp =
    map (λ b. fe32.element (b / 32)) (lowered hrp) ++ (fe32.zero ∷ map fe32.element (lowered hrp))

-- from its highest coefficient: one, the elements of the human-readable part, the elements
abbrev pub text_polynomial : List ℕ → List Fe32 → List Fe32
text_polynomial hrp elements = appended (fe32.one ∷ []) (hrp_elements hrp ++ elements)

-- put after the elements, the checksum makes the target the polynomial's remainder
pub record IsChecksumOf (code : Code) (hrp : List ℕ) (elements checksum : List Fe32) : Type 0 where
  pub size : length checksum ≡ length code.generator
  pub has_target :
      IsRemainder fe32.ops code.generator (text_polynomial hrp (elements ++ checksum)) code.target

-- put after elements with no human-readable part, the checksum makes the polynomial of a one and
-- them have the target as remainder
pub record IsChecksumOfElements (code : Code) (elements checksum : List Fe32) : Type 0 where
  pub size : length checksum ≡ length code.generator
  pub has_target : IsRemainder fe32.ops code.generator
      (appended (fe32.one ∷ []) (elements ++ checksum)) code.target

-- the elements, and behind them a checksum of theirs
pub record EndsInChecksum (IsChecksum : List Fe32 → List Fe32 → Type 0)
    (elements given : List Fe32) : Type 0 where
  pub checksum : List Fe32
  pub is_checksum : IsChecksum elements checksum
  pub given_is : given ≡ elements ++ checksum
