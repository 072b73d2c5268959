use Rattle.std.proofs.Common.{◌∷◌, []}
use Rattle.bech32_descriptor.proofs.checks.letters.Goals as goal

pub returns : goal.returns
returns c = λ i.
    c.letter.ensures i ∷ c.letter-2.ensures i ∷ c.letter-3.ensures i ∷ c.letter-4.ensures i
    ∷ c.letter-5.ensures i ∷ c.letter-6.ensures i ∷ c.letter-7.ensures i ∷ c.letter-8.ensures i ∷ []
