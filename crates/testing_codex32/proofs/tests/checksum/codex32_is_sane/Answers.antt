use Rattle.codex32.specs.laws.RootLaws.{codex32_roots}
use Rattle.testing_codex32.proofs.tests.checksum.codex32_is_sane.Goals as goal

pub returns : goal.returns
returns c = c.sanity_check.ensures.1 (λ some. codex32_roots)
