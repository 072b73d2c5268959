-- How long a text is.
use Rattle.std.specs.Prelude.{ℕ, ◌+◌, ◌-◌, ◌^◌, min, List, length}
use Rattle.bech32_gf.specs.declared.gf32.Fe32.{Fe32}
use Rattle.bech32_checksum.specs.Code.{Code}

-- the characters of the text of a human-readable part, this many elements and a checksum of this
-- many, or 2 ^ 64 - 1 where there are more
abbrev pub text_length_of : ℕ → List ℕ → ℕ → ℕ
text_length_of degree hrp elements = min (length hrp + 1 + elements + degree) (2 ^ 64 - 1)

-- the same of elements and their checksum
abbrev pub encoded_length_of : Code → List ℕ → List Fe32 → ℕ
encoded_length_of code hrp elements = text_length_of (length code.generator) hrp (length elements)
