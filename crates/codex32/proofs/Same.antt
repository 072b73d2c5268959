-- Thresholds and identifiers are the same where their numbers and elements are.
use Rattle.std.specs.Prelude.{◌==◌, not}
use Rattle.std.proofs.Common.{◌≡◌, Bool, true, false, List, length, sym, ap, ◌∙◌}
use Rattle.std.proofs.lemmas.Bool.{eq-eqb, eqb-true, not-false}
use Rattle.bech32_gf.specs.Fe32 as fe32
use Rattle.bech32_gf.specs.declared.gf32.Fe32.{Fe32}
use Rattle.codex32.specs.Thresholds.{is_threshold_number}
use Rattle.codex32.specs.declared.identifier.Identifier.{Identifier}
use Rattle.codex32.specs.declared.threshold.Threshold.{Threshold}
use mathlib.Core.Bool.{Bool-set}
use mathlib.Core.HLevel.{is_prop→PathP, hedberg}
use native.Mathlib.Decide.{ℕ_discrete}
use lib.Pointwise.{pointwise, pointwise_decides}

pub threshold-path : (t u : Threshold) → t.number ≡ u.number → t ≡ u
threshold-path t u e =
    λ i. record {
      number = e i;
      lawful = is_prop→PathP (λ j. is_threshold_number (e j) ≡ true) (λ j. Bool-set (is_threshold_number (e j)) true) t.lawful u.lawful i;
    }

pub identifier-path : (a b : Identifier) → a.elements ≡ b.elements → a ≡ b
identifier-path a b e =
    λ i. record {
      elements = e i;
      full = is_prop→PathP (λ j. length (e j) ≡ 4) (λ j. hedberg ℕ_discrete (length (e j)) 4) a.full b.full i;
    }

-- what the tests of derived equality say
pub thresholds-same : (t u : Threshold) (b : Bool) → b ≡ not (t.number == u.number) → b ≡ false → t ≡ u
thresholds-same t u b e f = threshold-path t u (eqb-true t.number u.number (not-false (t.number == u.number) (sym e ∙ f)))

elements-decide : (xs ys : List Fe32) → (pointwise (λ (x y : Fe32). x.value == y.value) xs ys ≡ true → xs ≡ ys) × (xs ≡ ys → pointwise (λ (x y : Fe32). x.value == y.value) xs ys ≡ true)
elements-decide = pointwise_decides (λ (x y : Fe32). (λ h. fe32.path x y (eqb-true x.value y.value h), λ e. eq-eqb x.value y.value (ap (λ (z : Fe32). z.value) e)))

pub identifiers-same : (a c : Identifier) (b : Bool) → b ≡ not (pointwise (λ (x y : Fe32). x.value == y.value) a.elements c.elements) → b ≡ false → a ≡ c
identifiers-same a c b e f = identifier-path a c ((elements-decide a.elements c.elements).0 (not-false _ (sym e ∙ f)))

pub identifiers-differ : (a c : Identifier) (b : Bool) → b ≡ not (pointwise (λ (x y : Fe32). x.value == y.value) a.elements c.elements) → b ≡ true → a ≡ c → ⊥
identifiers-differ a c b e f same =
    let all : pointwise (λ (x y : Fe32). x.value == y.value) a.elements c.elements ≡ true = (elements-decide a.elements c.elements).1 (ap (λ (z : Identifier). z.elements) same) in
    absurd (let k = sym f ∙ e ∙ ap not all in cc)
