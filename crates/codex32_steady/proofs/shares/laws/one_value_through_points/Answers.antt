use Rattle.bech32_gf.specs.laws.Fe32Laws.{is_field}
use Rattle.codex32_steady.proofs.Through.{value_exists, value_unique}
use Rattle.codex32_steady.proofs.shares.laws.one_value_through_points.Goals as goal

pub returns-clause-exists : goal.returns-clause-exists
returns-clause-exists c = λ xs ys x e once. value_exists is_field xs ys x e once

pub returns-clause-unique : goal.returns-clause-unique
returns-clause-unique c = λ xs ys x y z once a b. value_unique is_field xs ys x y z once a b
