use Rattle.std.specs.Prelude.{IfOk}
use Rattle.std.proofs.Common.{refl, string_bytes, subst}
use Rattle.bech32_gf.specs.Fe32.{path}
use Rattle.codex32.specs.Derive.{IsDeriveRefusal, IsDerivedOrRefused, IsDerivedString, IsStringOfSet}
use Rattle.codex32.specs.HeaderParts.{secret_index}
use Rattle.codex32.proofs.derivation.recover.Goals as goal

pub returns-clause-value : goal.returns-clause-value
returns-clause-value g c =
    subst (λ x. IfOk c.derive.result (λ s. IsDerivedString c.args.shares.now x (string_bytes s))) (path _ secret_index refl) c.derive.ensures.value

pub returns-clause-string : goal.returns-clause-string
returns-clause-string g c =
    subst (λ x. IfOk c.derive.result (λ s. IsStringOfSet c.args.shares.now x (string_bytes s))) (path _ secret_index refl) c.derive.ensures.string

pub returns-clause-refused : goal.returns-clause-refused
returns-clause-refused g c =
    subst (λ x. IsDerivedOrRefused IsDeriveRefusal c.args.shares.now x c.derive.result) (path _ secret_index refl) c.derive.ensures.refused
