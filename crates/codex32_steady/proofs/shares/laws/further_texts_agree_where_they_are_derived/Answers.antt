use Rattle.bech32_gf.specs.laws.Fe32Laws.{is_field}
use Rattle.codex32_steady.proofs.Agreed.{agree_from_derived, derived_from_agree}
use Rattle.codex32_steady.proofs.shares.laws.further_texts_agree_where_they_are_derived.Goals as goal

pub returns : goal.returns
returns c = λ xs zs texts further n shares size alike. (
  λ agree. derived_from_agree is_field xs zs texts further n shares size alike agree,
  λ derived. agree_from_derived is_field xs zs texts further n shares derived,
)
