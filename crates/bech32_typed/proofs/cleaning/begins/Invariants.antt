use Rattle.std.proofs.Common.{◌≡◌, drop}
use Rattle.bech32_typed.specs.Cleaned.{begins_lower}
use Rattle.bech32_typed.proofs.cleaning.begins.Given as goal

abbrev pub invariant-loop-i : goal.invariant-loop-i
invariant-loop-i l = begins_lower (drop l.i l.with) (drop l.i l.text) ≡ begins_lower l.with l.text
