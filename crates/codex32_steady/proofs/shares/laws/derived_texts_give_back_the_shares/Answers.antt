use Rattle.bech32_gf.specs.laws.Fe32Laws.{is_field}
use Rattle.codex32_steady.proofs.ShareTexts.{recovered, shares_are_derived}
use Rattle.codex32_steady.proofs.shares.laws.derived_texts_give_back_the_shares.Goals as goal

pub returns-clause-same : goal.returns-clause-same
returns-clause-same c = λ xs texts n zs us x text shares once e derived at. recovered is_field xs texts n zs us x text shares e derived at

pub returns-clause-own : goal.returns-clause-own
returns-clause-own c = λ xs texts n shares. shares_are_derived is_field xs texts n shares
