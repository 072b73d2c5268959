-- The checksum of strings of each kind.
use Rattle.std.specs.Prelude.{List}
use Rattle.bech32_checksum.specs.Code.{Code}
use Rattle.bech32_gf.specs.declared.gf32.Fe32.{Fe32}
use Rattle.codex32.specs.Code.{codex32, long_codex32}
use Rattle.codex32_calls.specs.declared.propose.Kind.{Kind}
use Rattle.codex32_calls.specs.declared.propose.Kind.TheVariants.{Short, Long}
use Rattle.codex32_small.specs.declared.register.Row.{Row}
use Rattle.codex32_small.specs.declared.register.Row.TheVariants.{Generator, Target}

-- that of 13 characters, or of 15
abbrev pub code_of_kind : Kind → Code
code_of_kind Short = codex32
code_of_kind Long = long_codex32

-- the elements of one of its rows
abbrev pub coefficients_of : Row → Code → List Fe32
coefficients_of Generator code = code.generator
coefficients_of Target code = code.target
