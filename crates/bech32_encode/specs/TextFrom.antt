-- What is left of a text from a place on.
use Rattle.std.specs.Prelude.{ℕ, List, [], ◌∷◌, ◌++◌, map, drop}
use Rattle.bech32_checksum.specs.Encoded.{char_of_element}
use Rattle.bech32_gf.specs.declared.gf32.Fe32.{Fe32}
use Rattle.bech32_hrp.specs.Hrp.{lowered}

-- the human-readable part in lower case and the separator
abbrev pub text_front : List ℕ → List ℕ
text_front hrp = lowered hrp ++ (49 ∷ [])

-- what is left of those from a place on, and then the characters of elements
abbrev pub text_from : List ℕ → ℕ → List Fe32 → List ℕ
text_from hrp place xs = drop place (text_front hrp) ++ map char_of_element xs
