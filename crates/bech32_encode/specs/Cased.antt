-- Texts in either case (BIP-173, Bech32).
use Rattle.std.specs.Prelude.{◌≡◌, ℕ, Bool, true, false, List, map}
use Rattle.std.specs.Char.{to_ascii_uppercase}
use Rattle.bech32_gf.specs.declared.gf32.Fe32.{Fe32}
use Rattle.bech32_checksum.specs.Code.{Code}
use Rattle.bech32_checksum.specs.Encoded.{IsEncodedText}

-- a text with each ASCII letter in upper case, or as it is
abbrev pub in_case : Bool → List ℕ → List ℕ
in_case true text = map to_ascii_uppercase text
in_case false text = text

-- the text of the elements and their checksum, in upper case or in lower case
abbrev pub IsTextInCase : Bool → Code → List ℕ → List Fe32 → List ℕ → Type 0
IsTextInCase upper code hrp elements text =
    (lower : List ℕ) × IsEncodedText code hrp elements lower × (text ≡ in_case upper lower)
