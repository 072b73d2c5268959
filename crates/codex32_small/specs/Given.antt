-- What a payload is given as, and its elements.
use Rattle.std.specs.Prelude.{◌≡◌, ℕ, true, List, ⊤}
use Rattle.bech32_bits.specs.Bits.{to_fes}
use Rattle.bech32_gf.specs.Alphabet.{is_data}
use Rattle.bech32_gf.specs.Fe32.{elements_of}
use Rattle.bech32_gf.specs.declared.gf32.Fe32.{Fe32}
use Rattle.codex32_small.specs.declared.encode.Form.{Form}
use Rattle.codex32_small.specs.declared.encode.Form.TheVariants.{Bytes, Characters}

abbrev pub elements_given : Form → List ℕ → List Fe32
elements_given Bytes bytes = to_fes bytes
elements_given Characters characters = elements_of characters

-- characters are of the alphabet
abbrev pub IsGivenAs : Form → List ℕ → Type 0
IsGivenAs Bytes bytes = ⊤
IsGivenAs Characters characters = is_data characters ≡ true
