-- The elements as Rust code.
use Rattle.std.specs.Prelude.{ℕ, List, [], ◌∷◌, ◌++◌, codes, if◌then◌else◌}
use Rattle.std.specs.Char.{to_ascii_uppercase, is_ascii_digit}
use Rattle.bech32_gf.specs.Alphabet.{char_of}
use Rattle.bech32_gf.specs.declared.gf32.Fe32.{Fe32}

-- the name of the constant of a character: the character in upper case, behind an
-- underscore if it is a digit
abbrev pub constant_name : ℕ → List ℕ
constant_name c = if is_ascii_digit c then codes "_" ++ c ∷ [] else to_ascii_uppercase c ∷ []

-- the constant of an element, as Rust code
abbrev pub fe32_code : Fe32 → List ℕ
fe32_code x = codes "Fe32::" ++ constant_name (char_of x.value)

-- two elements as Rust code, one after the other
abbrev pub two_code : Fe32 → Fe32 → List ℕ
two_code x y = fe32_code x ++ codes ", " ++ fe32_code y
