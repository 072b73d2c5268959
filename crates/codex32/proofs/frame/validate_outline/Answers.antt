use Rattle.std.proofs.Common.{sym, ◌∙◌}
use Rattle.codex32.specs.Lengths.{may_have}
use Rattle.codex32.proofs.Refused.{fine_outline, refused_hrp, refused_length}
use Rattle.codex32.proofs.frame.validate_outline.Goals as goal

pub returns-then-not-allows : goal.returns-then-not-allows
returns-then-not-allows c = refused_length (may_have c.args.lengths) c.args.count c.args.hrp.now (sym c.allows.ensures ∙ c.if-not-allows.true)

pub returns-then-not-is_of_codex32 : goal.returns-then-not-is_of_codex32
returns-then-not-is_of_codex32 c =
    refused_hrp (may_have c.args.lengths) c.args.count c.args.hrp.now (sym c.allows.ensures ∙ c.if-not-allows.false) (sym c.is_of_codex32.ensures ∙ c.if-not-is_of_codex32.true)

pub returns : goal.returns
returns c =
    fine_outline (may_have c.args.lengths) c.args.count c.args.hrp.now (sym c.allows.ensures ∙ c.if-not-allows.false) (sym c.is_of_codex32.ensures ∙ c.if-not-is_of_codex32.false)
