use Rattle.std.proofs.Common.{subst}
use Rattle.bech32_bch.specs.Erasures.{AreErasures}
use Rattle.bech32_lookup.specs.Question.{Question}
use Rattle.bech32_correction.proofs.corrector.Corrector.erasures.Goals as goal

pub returns-clause-lawful : goal.returns-clause-lawful
returns-clause-lawful g c = subst (λ (v : Question). AreErasures v.window v.erasures) c.self.view_is c.self.invariant.1
