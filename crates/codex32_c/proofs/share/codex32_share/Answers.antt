use Rattle.std.proofs.Common.{rules}
use Rattle.codex32_c.proofs.share.codex32_share.Goals as goal

pub returns-in-Ok-clause-value : goal.returns-in-Ok-clause-value
returns-in-Ok-clause-value c = λ _. record {
  header = c.in-Ok.header;
  told = record { threshold_is = search rules; identifier_is = search rules; share_index_is = search rules };
  puts = c.in-Ok.ensures.value;
}
