use Rattle.std.proofs.Common.{◌≡◌, ◌∙◌, ℕ, List, length, ap, arith, subst}
use Rattle.bech32_decode.specs.Text.{IsText}
use Rattle.bech32_decode.proofs.Grammar.{only-from_IsText}
use Rattle.bech32_meant.proofs.Refused.{fault_not_in_grammar}
use Rattle.bech32_meant.proofs.added.checked.Goals as goal

pub returns-in_default : goal.returns-in_default
returns-in_default c = λ h. fault_not_in_grammar c.args.text.now c.in_default.field-0 c.in_default.ensures (h.hrp, h.data_part, h.grammar)

pub returns-then-reading-lt6 : goal.returns-then-reading-lt6
returns-then-reading-lt6 c = λ h.
    let r = c.in-Ok.reading in
    let one = only-from_IsText r.text.now r.hrp.now r.data_part.now r.is_reading.grammar h.hrp h.data_part (c.in-Ok.ensures ∙ h.grammar.split) h.grammar.data_bytes in
    let same : length h.data_part ≡ length r.data_part.now = ap length one.1 in
    absurd (omega (arith, same, h.checked, c.if-reading-lt6.true))

pub returns : goal.returns
returns c =
    let r = c.in-Ok.reading in (
      record {
        short = c.if-text-gt1023.false;
        hrp = r.hrp.now;
        data_part = r.data_part.now;
        grammar = subst (λ (t : List ℕ). IsText t r.hrp.now r.data_part.now) c.in-Ok.ensures r.is_reading.grammar;
        checked = c.if-reading-lt6.false;
      },
      (c.in-Ok.ensures, c.if-reading-lt6.false),
    )
