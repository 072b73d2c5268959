use Rattle.std.proofs.Common.{string_bytes}
use Rattle.codex32.proofs.Derived.{refused-from_outcome}
use Rattle.codex32.proofs.DerivedStrings.{string-from_outcome}
use Rattle.codex32.proofs.derivation.derive.Goals as goal

pub returns-clause-string : goal.returns-clause-string
returns-clause-string g c = string-from_outcome string_bytes c.args.shares.now c.args.index c.derived_in.result c.derived_in.ensures

pub returns-clause-refused : goal.returns-clause-refused
returns-clause-refused g c = refused-from_outcome string_bytes c.args.shares.now c.args.index c.derived_in.result c.derived_in.ensures
