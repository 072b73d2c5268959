use Rattle.std.proofs.Common.{sym, rules}
use Rattle.bech32_hrp.proofs.HrpScan.{Scanned-start, Scanned-next, Scanned-other, Scanned-invalid, Scanned-mixed, Scanned-end}
use Rattle.bech32_hrp.proofs.check.Goals as goal

pub characters-init : goal.characters-init
characters-init c = Scanned-start c.args.text.now _ c.utf8.text (search rules)

pub characters-preserved : goal.characters-preserved
characters-preserved c =
    rw (c.is_ascii_lowercase-has_lower.ensures.value, c.is_ascii_uppercase-has_upper.ensures.value)
    (Scanned-next _ _ _ c.in-Some.c _ _ c.characters.invariant c.in-Some.ensures.steps.0 (sym c.if-not-is_ascii.ensures) (sym c.if-not-is_graphic_byte.ensures) (sym c.if-is_of_other_case.ensures))

pub returns-then-not-is_ascii : goal.returns-then-not-is_ascii
returns-then-not-is_ascii c = Scanned-other _ _ _ c.in-Some.c _ _ c.characters.invariant c.in-Some.ensures.steps.0 (sym c.if-not-is_ascii.ensures)

pub returns-then-not-is_graphic_byte : goal.returns-then-not-is_graphic_byte
returns-then-not-is_graphic_byte c = Scanned-invalid _ _ _ c.in-Some.c _ _ c.characters.invariant c.in-Some.ensures.steps.0 (sym c.if-not-is_ascii.ensures) (sym c.if-not-is_graphic_byte.ensures)

pub returns-then-is_of_other_case : goal.returns-then-is_of_other_case
returns-then-is_of_other_case c = Scanned-mixed _ _ _ c.in-Some.c _ _ c.characters.invariant c.in-Some.ensures.steps.0 (sym c.if-not-is_ascii.ensures) (sym c.if-not-is_graphic_byte.ensures) (sym c.if-is_of_other_case.ensures)

pub returns : goal.returns
returns c = Scanned-end _ _ _ _ c.characters.invariant c.in-None.ensures.steps.0.0
