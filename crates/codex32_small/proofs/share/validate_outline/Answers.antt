use Rattle.std.proofs.Common.{sym, ◌∙◌}
use Rattle.codex32.specs.Strings.{is_within_either}
use Rattle.codex32.proofs.Refused.{fine_outline, ms-tested, refused_hrp, refused_length}
use Rattle.codex32_small.proofs.share.validate_outline.Goals as goal

pub returns-then-not-is_within : goal.returns-then-not-is_within
returns-then-not-is_within c = refused_length is_within_either c.args.count c.args.part.now (sym c.is_within.ensures ∙ c.if-not-is_within.true)

pub returns-then-not-eq_ignore_ascii_case : goal.returns-then-not-eq_ignore_ascii_case
returns-then-not-eq_ignore_ascii_case c =
    refused_hrp is_within_either c.args.count c.args.part.now (sym c.is_within.ensures ∙ c.if-not-is_within.false)
    (sym (ms-tested c.args.part.now c.eq_ignore_ascii_case.result c.eq_ignore_ascii_case.ensures.test) ∙ c.if-not-eq_ignore_ascii_case.true)

pub returns : goal.returns
returns c =
    fine_outline is_within_either c.args.count c.args.part.now (sym c.is_within.ensures ∙ c.if-not-is_within.false)
    (sym (ms-tested c.args.part.now c.eq_ignore_ascii_case.result c.eq_ignore_ascii_case.ensures.test) ∙ c.if-not-eq_ignore_ascii_case.false)
