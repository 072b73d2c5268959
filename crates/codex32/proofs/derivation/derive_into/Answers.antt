use Rattle.std.proofs.Common.{ℕ, take}
use Rattle.codex32.specs.Derive.{IsDeriveIntoRefusal}
use Rattle.codex32.proofs.Derived.{refused-from_put}
use Rattle.codex32.proofs.DerivedStrings.{string-from_put}
use Rattle.codex32.proofs.derivation.derive_into.Goals as goal

pub returns-clause-string : goal.returns-clause-string
returns-clause-string c =
    string-from_put (IsDeriveIntoRefusal c.args.shares.now c.args.index) (λ (n : ℕ). take n c.put_derived_text.new.buffer) c.args.shares.now c.args.index c.put_derived_text.result c.put_derived_text.ensures.outcome

pub returns-clause-refused : goal.returns-clause-refused
returns-clause-refused c =
    refused-from_put (IsDeriveIntoRefusal c.args.shares.now c.args.index) (λ (n : ℕ). take n c.put_derived_text.new.buffer) c.args.shares.now c.args.index c.put_derived_text.result c.put_derived_text.ensures.outcome
