use Rattle.std.specs.Prelude.{true, false}
use Rattle.std.proofs.Common.{◌≡◌, sym, ◌∙◌}
use Rattle.bech32_near.proofs.search.gathering.is_highest.Goals as goal

pub returns-then-is_zero : goal.returns-then-is_zero
returns-then-is_zero c = (λ h. absurd (cc h), λ p. absurd (p.0 (c.is_zero.ensures.0 c.if-is_zero.true)))

pub returns : goal.returns
returns c = (
  λ h. ((λ e. let no : true ≡ false = sym (c.is_zero.ensures.1 e) ∙ c.if-is_zero.false in cc no), c.are_within.ensures.0 h),
  λ p. c.are_within.ensures.1 p.1,
)
