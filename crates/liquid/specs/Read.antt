-- What a text is read as.
use Rattle.std.specs.Prelude.{◌≡◌, ℕ, List, ◌∷◌}
use Rattle.bech32_gf.specs.Fe32.{elements_of}
use Rattle.bech32_gf.specs.declared.gf32.Fe32.{Fe32}
use Rattle.bech32_bits.specs.Bits.{to_bytes}
use Rattle.bech32_checksum.specs.Code.{Code}
use Rattle.bech32_decode.specs.Acceptance.{IsAccepted}
use Rattle.bech32_decode.specs.BeforeChecksum.{IsBeforeChecksum}
use Rattle.liquid.specs.Confidential.{IsKeyAndProgram}
use Rattle.liquid.specs.Parts.{confidential_part, confidential_payload, confidential_version}
use Rattle.liquid.specs.declared.address.Address.{Address}

-- the checksum accepts the text with this human-readable part, and before its checksum stand the
-- version 0 and the elements of these bytes
pub record IsReadConfidential (code : Code) (text : List ℕ) (a : Address) : Type 0 where
  pub data_part : List ℕ
  pub accepted : IsAccepted code text (confidential_part a) data_part
  pub checked : List ℕ
  pub before : IsBeforeChecksum code data_part checked
  pub payload : List Fe32
  pub elements : elements_of checked ≡ confidential_version a ∷ payload
  pub version_is : (confidential_version a).value ≡ 0
  pub lawful : IsKeyAndProgram (confidential_version a) payload
  pub bytes : confidential_payload a ≡ to_bytes payload
