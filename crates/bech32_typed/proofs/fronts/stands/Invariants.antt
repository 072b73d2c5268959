use Rattle.std.proofs.Common.{◌≡◌, drop, length}
use Rattle.bech32_typed.specs.Fronts.{stands_for}
use Rattle.bech32_typed.proofs.fronts.stands.Given as goal

abbrev pub invariant-loop-i : goal.invariant-loop-i
invariant-loop-i l = (stands_for (drop l.i l.frame) (drop l.i l.text) ≡ stands_for l.frame l.text) × (length l.frame ≡ length l.text)
