use Rattle.codex32_steady.proofs.texts.parts.SteadyCharacterTests.has_both_cases.Goals as goal

pub returns : goal.returns
returns c = c.has_both_cases.ensures
