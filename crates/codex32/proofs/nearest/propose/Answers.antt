use Rattle.std.specs.Prelude.{string_bytes}
use Rattle.std.proofs.Common.{refl}
use Rattle.codex32.specs.Code.{codex32}
use Rattle.codex32.specs.Strings.{is_within}
use Rattle.codex32.specs.laws.RootLaws.{base, codex32_roots}
use Rattle.codex32.proofs.Near.{one_nearest, refused-from_outcome, value-from_outcome}
use Rattle.codex32.proofs.nearest.propose.Goals as goal

pub returns-clause-value : goal.returns-clause-value
returns-clause-value g c = value-from_outcome codex32 is_within c.args.text.now string_bytes _ c.proposed_in.result c.proposed_in.ensures

pub returns-clause-only : goal.returns-clause-only
returns-clause-only g c = one_nearest codex32 base 9 16 codex32_roots refl c.args.text.now

pub returns-clause-refused : goal.returns-clause-refused
returns-clause-refused g c = refused-from_outcome codex32 is_within c.args.text.now string_bytes _ c.proposed_in.result c.proposed_in.ensures
