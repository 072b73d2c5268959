use Rattle.bech32_gf.specs.laws.Fe32Laws.{is_field}
use Rattle.codex32_steady.proofs.Checksums.{total_is_one}
use Rattle.codex32_steady.proofs.shares.laws.weights_sum_to_one.Goals as goal

pub returns : goal.returns
returns c = λ xs x ws some are. total_is_one is_field xs x ws some are
