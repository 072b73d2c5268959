use Rattle.std.proofs.Common.{◌≡◌, take}
use Rattle.bech32_gf.specs.Alphabet.{is_data}
use Rattle.codex32_steady.proofs.are_of_alphabet.Given as goal

abbrev pub invariant-loop-b : goal.invariant-loop-b
invariant-loop-b l = l.data ≡ is_data (take l.b-index l.bytes)
