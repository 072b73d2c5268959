use Rattle.codex32_calls.proofs.propose.nearest_in.Goals as goal

pub returns-in-None-clause-refused : goal.returns-in-None-clause-refused
returns-in-None-clause-refused g c =
    let none = rw c.in-None.is at c.in_ok-nearest.ensures.value in
    λ room. (c.requires, c.in_ok-nearest.ensures.refused, none)
