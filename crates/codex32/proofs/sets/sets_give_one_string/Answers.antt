use Rattle.codex32.proofs.Derived.{shares-from_set}
use Rattle.codex32.proofs.OneString.{one, own, own_text, read, same}
use Rattle.codex32.proofs.sets.sets_give_one_string.Goals as goal

pub returns-clause-shares : goal.returns-clause-shares
returns-clause-shares c = shares-from_set

pub returns-clause-one : goal.returns-clause-one
returns-clause-one c = one

pub returns-clause-own : goal.returns-clause-own
returns-clause-own c = own

pub returns-clause-own_text : goal.returns-clause-own_text
returns-clause-own_text c = own_text

pub returns-clause-read : goal.returns-clause-read
returns-clause-read c = read

pub returns-clause-same : goal.returns-clause-same
returns-clause-same c = same
