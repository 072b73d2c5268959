use Rattle.bech32_gf.specs.laws.Fe32Laws.{is_field}
use Rattle.codex32_steady.proofs.ShareTexts.{derived_exists, derived_unique, common_kept, index_moved}
use Rattle.codex32_steady.proofs.shares.laws.one_text_is_derived.Goals as goal

pub returns-clause-exists : goal.returns-clause-exists
returns-clause-exists c = λ xs texts n x shares. derived_exists is_field xs texts n x shares

pub returns-clause-unique : goal.returns-clause-unique
returns-clause-unique c = λ xs texts n x a b shares da db. derived_unique is_field xs texts n x a b shares da db

pub returns-clause-common : goal.returns-clause-common
returns-clause-common c = λ xs texts n x text i k shares some derived within all. common_kept is_field xs texts n x text i k shares some derived within all

pub returns-clause-index : goal.returns-clause-index
returns-clause-index c = λ xs texts n x text i shares some derived within own. index_moved is_field xs texts n x text i shares some derived within own
