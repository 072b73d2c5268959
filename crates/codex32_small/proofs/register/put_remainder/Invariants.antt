use Rattle.std.proofs.Common.{◌≡◌, [], take}
use Rattle.bech32_gf.specs.Fe32 as fe32
use Rattle.bech32_gf.specs.Fe32.{elements_of}
use Rattle.bech32_checksum.specs.TextPolynomial.{text_polynomial}
use Rattle.bech32_poly.specs.Division.{remainder_of}
use Rattle.bech32_poly.specs.Polynomial.{appended}
use Rattle.codex32_steady.specs.texts.Parts.{ms}
use Rattle.codex32_small.specs.Code.{code_of_kind}
use Rattle.codex32_small.proofs.register.put_remainder.Given as goal

-- the first ones were taken
abbrev pub invariant-loop-c : goal.invariant-loop-c
invariant-loop-c l =
    l.rest ≡ remainder_of fe32.ops (code_of_kind l.kind).generator (appended (text_polynomial ms []) (take l.c-index (elements_of l.characters)))
