use Rattle.bech32_gf.specs.laws.Fe32Laws.{is_field}
use Rattle.codex32_steady.proofs.Checksums.{same_remainder}
use Rattle.codex32_steady.proofs.shares.laws.derived_texts_are_accepted.Goals as goal
use Rattle.bech32_checksum.specs.TextPolynomial.{hrp_elements}

pub returns : goal.returns
returns c = λ code hrp xs texts n x text shares some derived all. same_remainder is_field xs texts n x text code.generator (hrp_elements hrp) code.target shares some derived all
