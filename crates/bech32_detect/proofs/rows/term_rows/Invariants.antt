use Rattle.bech32_detect.proofs.TermRows.{ValuesBelow}
use Rattle.bech32_detect.proofs.rows.term_rows.Given as goal

abbrev pub invariant-loop-value : goal.invariant-loop-value
invariant-loop-value g l = ValuesBelow g.Ck.Checksum.code.generator l.n l.rows.items l.value
