use Rattle.std.proofs.Common.{ap, arith}
use Rattle.bech32_gf.specs.declared.gf32.Fe32.{Fe32}
use Rattle.codex32.specs.Code.{codex32, long_codex32}
use Rattle.codex32.specs.laws.LongRootLaws.{long_codex32_roots}
use Rattle.codex32.specs.laws.RootLaws.{codex32_roots}
use Rattle.codex32.proofs.Changed.{fifteen, strings_far, thirteen}
use Rattle.codex32.proofs.detection.changed_strings_are_no_strings.Goals as goal

pub returns-clause-few : goal.returns-clause-few
returns-clause-few c = λ text other is other_is same. strings_far text other is other_is (c.accepted_texts_are_far.ensures (omega arith) (λ some. codex32_roots)) (c.accepted_texts_are_far-2.ensures (omega arith) (λ some. long_codex32_roots)) same

pub returns-clause-burst : goal.returns-clause-burst
returns-clause-burst c = λ text other is other_is differ.
    thirteen text other is other_is (c.bursts_are_detected.ensures.code codex32 (λ e. absurd (omega (arith, ap (λ (x : Fe32). x.value) e))))
    (c.bursts_are_detected.ensures.code long_codex32 (λ e. absurd (omega (arith, ap (λ (x : Fe32). x.value) e)))) differ

pub returns-clause-long_burst : goal.returns-clause-long_burst
returns-clause-long_burst c = λ text other is other_is size differ.
    fifteen text other is other_is (c.bursts_are_detected.ensures.code long_codex32 (λ e. absurd (omega (arith, ap (λ (x : Fe32). x.value) e)))) size differ
