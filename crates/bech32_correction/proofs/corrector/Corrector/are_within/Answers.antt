use Rattle.std.specs.List.{AllByRecursion}
use Rattle.std.specs.Prelude.{◌↔◌, IsTrue}
use Rattle.std.proofs.Common.{◌<◌, subst}
use Rattle.bech32_lookup.specs.Question.{Question}
use Rattle.bech32_correction.proofs.corrector.Corrector.are_within.Goals as goal

pub returns : goal.returns
returns g c =
    subst (λ (q : Question). IsTrue c.are_below.result ↔ AllByRecursion (λ i. i < q.window) c.args.locations.now)
    c.self.view_is c.are_below.ensures
