use Rattle.std.proofs.Common.{◌≡◌, drop}
use Rattle.bech32_typed.specs.Cleaned.{trimmed}
use Rattle.bech32_typed.proofs.cleaning.trim.Given as goal

abbrev pub invariant-loop-i : goal.invariant-loop-i
invariant-loop-i l = trimmed (drop l.i l.text) ≡ trimmed l.text
