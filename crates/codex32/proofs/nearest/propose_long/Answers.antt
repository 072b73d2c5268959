use Rattle.std.specs.Prelude.{string_bytes}
use Rattle.std.proofs.Common.{refl}
use Rattle.codex32.specs.Code.{long_codex32}
use Rattle.codex32.specs.Strings.{is_within_long}
use Rattle.codex32.specs.laws.LongRootLaws.{long_base, long_codex32_roots}
use Rattle.codex32.proofs.Near.{one_nearest, refused-from_outcome, value-from_outcome}
use Rattle.codex32.proofs.nearest.propose_long.Goals as goal

pub returns-clause-value : goal.returns-clause-value
returns-clause-value g c = value-from_outcome long_codex32 is_within_long c.args.text.now string_bytes _ c.proposed_in.result c.proposed_in.ensures

pub returns-clause-only : goal.returns-clause-only
returns-clause-only g c = one_nearest long_codex32 long_base 1019 1026 long_codex32_roots refl c.args.text.now

pub returns-clause-refused : goal.returns-clause-refused
returns-clause-refused g c = refused-from_outcome long_codex32 is_within_long c.args.text.now string_bytes _ c.proposed_in.result c.proposed_in.ensures
