use Rattle.std.proofs.Common.{◌≡◌, ◌≤◌, true, length, drop}
use Rattle.bech32_gf.specs.Alphabet.{is_data}
use Rattle.bech32_decode.proofs.parts.CharacterTests.data_start.Given as goal

abbrev pub invariant-loop-start : goal.invariant-loop-start
invariant-loop-start g l = (l.start ≤ length l.bytes) × (is_data (drop l.start l.bytes) ≡ true)

abbrev pub decreases-loop-start : goal.decreases-loop-start
decreases-loop-start g l = l.start
