-- Confidential addresses of Liquid (Elements, src/blech32.cpp and src/key_io.cpp): behind a witness
-- version a blinding key of 33 bytes and a witness program, by a checksum, which of version 0 is
-- Blech32. The rules of segwit addresses hold of the program (BIP-173, Segwit address format).
use Rattle.std.specs.Prelude.{◌≡◌, ◌≤◌, ◌⊎◌, ◌-◌, ℕ, List, ◌∷◌, ◌++◌, length, map}
use Rattle.std.specs.Char.{to_ascii_uppercase}
use Rattle.bech32_gf.specs.declared.gf32.Fe32.{Fe32}
use Rattle.bech32_bits.specs.Bits.{to_bytes, to_fes}
use Rattle.bech32_hrp.specs.Hrp.{IsHrp, lowered}
use Rattle.bech32_checksum.specs.Code.{Code}
use Rattle.bech32_checksum.specs.Encoded.{IsEncodedText}
use Rattle.bech32_decode.specs.SegwitPadding.{IsPadded}
use Rattle.bech32_decode.specs.Text.{HasHrp}
use Rattle.bech32_refusals.specs.SegwitRules.{IsProgramLength}

-- the lower-case address of a human-readable part, version 0, a blinding key and a program
pub record IsLowerConfidential (code : Code) (hrp : List ℕ) (version : Fe32)
    (key program text : List ℕ) : Type 0 where
  pub version_is : version.value ≡ 0
  pub key_length : length key ≡ 33
  pub program_length : IsProgramLength version (length program)
  pub encoded : IsEncodedText code hrp (version ∷ to_fes (key ++ program)) text

-- the address in lower case throughout or in upper case throughout
pub record IsConfidential (code : Code) (hrp : List ℕ) (version : Fe32)
    (key program text : List ℕ) : Type 0 where
  pub lower : List ℕ
  pub address : IsLowerConfidential code hrp version key program lower
  pub in_one_case : (text ≡ lower) ⊎ (text ≡ map to_ascii_uppercase lower)

-- the text is the address of some parts
abbrev pub IsConfidentialText : Code → List ℕ → Type 0
IsConfidentialText code text =
    (hrp : List ℕ) × (version : Fe32) × (key : List ℕ) × (program : List ℕ) × IsHrp hrp
    × IsConfidential code hrp version key program text

-- the text is the address of these parts, the human-readable part in the case of the text, and each
-- address of them, in either case, is the text but for its case
pub record IsDecodedConfidential (code : Code) (text hrp : List ℕ) (version : Fe32)
    (key program : List ℕ) : Type 0 where
  pub is_hrp : IsHrp hrp
  pub has_part : HasHrp text hrp
  pub is_address : IsConfidential code hrp version key program text
  pub spelling : (h : List ℕ) → (t : List ℕ) → lowered h ≡ lowered hrp
      → IsConfidential code h version key program t → lowered t ≡ lowered text

-- the elements behind a version are those of a blinding key and a program
pub record IsKeyAndProgram (version : Fe32) (fes : List Fe32) : Type 0 where
  pub padded : IsPadded fes
  pub has_key : 33 ≤ length (to_bytes fes)
  pub program_length : IsProgramLength version (length (to_bytes fes) - 33)
