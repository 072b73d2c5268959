use Rattle.std.proofs.Common.{sym, ◌∙◌}
use Rattle.std.proofs.lemmas.Bool.{eq-eqb, eqb-true}
use Rattle.codex32.proofs.Same.{identifiers-differ, identifiers-same, thresholds-same}
use Rattle.codex32_small.proofs.derive.is_of_set.Goals as goal

pub returns-then-ne-2 : goal.returns-then-ne-2
returns-then-ne-2 c = (
  λ yes. absurd (let e = yes in cc),
  λ of_set.
      absurd (identifiers-differ c.identifier.result c.identifier-2.result c.ne-2.result c.ne-2.ensures c.if-ne-2.true
      (c.identifier.ensures ∙ sym of_set.identifier ∙ sym c.identifier-2.ensures)),
)

pub returns : goal.returns
returns c = (
  λ yes. record {
    threshold = sym c.threshold-2.ensures ∙ sym (thresholds-same c.threshold.result c.threshold-2.result c.ne.result c.ne.ensures c.if-ne.false) ∙ c.threshold.ensures;
    identifier = sym c.identifier-2.ensures ∙ sym (identifiers-same c.identifier.result c.identifier-2.result c.ne-2.result c.ne-2.ensures c.if-ne-2.false) ∙ c.identifier.ensures;
    size = sym (eqb-true _ _ yes);
  },
  λ of_set. eq-eqb _ _ (sym of_set.size),
)
