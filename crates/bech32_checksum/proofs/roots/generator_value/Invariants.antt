use Rattle.std.proofs.Common.{◌≡◌}
use Rattle.bech32_checksum.proofs.RootTests.{value_from}
use Rattle.bech32_checksum.proofs.roots.generator_value.Given as goal

abbrev pub invariant-loop-place : goal.invariant-loop-place
invariant-loop-place g l =
    l.value ≡ value_from g.Ck.CorrectionField.Arithmetic.ops g.Ck.CorrectionField.Extension.embed l.x l.place g.Ck.Checksum.code.generator
