use Rattle.std.proofs.Common.{◌≤◌, arith}
use Rattle.std.proofs.lemmas.Bool.{ltb-false}
use Rattle.bech32_near.specs.search.Sketch.{entry_number}
use Rattle.bech32_near.proofs.Entries.{behind_first}
use Rattle.bech32_near.proofs.search.table.can_explain.Goals as goal

pub returns-then-first-entries-clause-above : goal.returns-then-first-entries-clause-above
returns-then-first-entries-clause-above c = λ sorted no number there high.
    let behind = behind_first c.args.entries.now c.first_of-first.result (entry_number c.args.key 0 0) number sorted (c.first_of-first.ensures sorted) there high in
    absurd (omega (arith, behind.0, c.if-first-entries.true))

pub returns-clause-above : goal.returns-clause-above
returns-clause-above c = λ sorted no number there high.
    let behind = behind_first c.args.entries.now c.first_of-first.result (entry_number c.args.key 0 0) number sorted (c.first_of-first.ensures sorted) there high in
    let least : c.entry_of.result ≤ c.entry_at.result = ltb-false _ _ no in
    omega (arith, behind.1, least, c.entry_at.ensures, c.entry_of.ensures)
