-- What is still to come of a text that is put into a buffer piece by piece.
use Rattle.std.specs.Prelude.{ℕ, Bool, true, false, List, [], ◌++◌}
use Rattle.std.specs.Prelude.{map, Option, None, option_to_list}
use Rattle.bech32_gf.specs.declared.gf32.Fe32.{Fe32}
use Rattle.bech32_bits.specs.Bits.{to_fes}
use Rattle.bech32_checksum.specs.Code.{Code}
use Rattle.bech32_checksum.specs.Encoded.{char_of_element}
use Rattle.bech32_encode.specs.Cased.{in_case}
use Rattle.bech32_encode.specs.ChecksumElements.{then_checksum}
use Rattle.bech32_encode.specs.TextFrom.{text_front}

-- the human-readable part, the separator and the version, unless the text has begun
abbrev pub front_left : Bool → List ℕ → Option Fe32 → List ℕ
front_left true hrp version = []
front_left false hrp version = text_front hrp ++ map char_of_element (option_to_list version)

-- the checksum of what left a residue, where that was the last
abbrev pub checksum_left : {R : Type 0} → (R → ℕ) → Code → Bool → R → List Fe32
checksum_left number code true residue = then_checksum number code residue None []
checksum_left number code false residue = []

-- unless the text has ended: a front, the elements of bytes, and the checksum of what
-- left a residue and of them
abbrev pub text_left : {R : Type 0} → (R → ℕ) → Code → Bool → Bool → List ℕ → R → List ℕ → List ℕ
text_left number code true upper front residue bytes = []
text_left number code false upper front residue bytes =
    in_case upper
    (front ++ map char_of_element (then_checksum number code residue None (to_fes bytes)))
