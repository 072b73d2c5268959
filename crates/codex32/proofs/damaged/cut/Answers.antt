use Rattle.std.proofs.Common.{◌≡◌, ◌<◌, ◌-◌, ◌+◌, ℕ, List, None, drop, get_or, length, ap, sym, subst, arith, refl, ◌∙◌}
use Rattle.std.proofs.lemmas.Bool.{eqb-true}
use Rattle.std.proofs.lemmas.List.{drop_all}
use Rattle.std.proofs.lemmas.Str.{IsCharBoundary-after_ascii, IsCharBoundary-before_ascii}
use Rattle.bech32_decode.specs.Text.{split_at_last}
use Rattle.bech32_decode.proofs.DataEnds.{front-slice}
use Rattle.codex32.proofs.Separated.{cut-at, none-before}
use Rattle.codex32.proofs.damaged.cut.Goals as goal

pub behind-init : goal.behind-init
unfolding split_at_last
behind-init c = record {
  inside = omega arith;
  none = ap split_at_last (drop_all (length c.as_bytes-bytes.result.now) c.as_bytes-bytes.result.now (omega arith));
}

pub range-requires-clause-end_boundary : goal.range-requires-clause-end_boundary
range-requires-clause-end_boundary c =
    let one : get_or c.args.text.now (c.behind.at - 1) 0 ≡ 49 = ap (λ (t : List ℕ). get_or t (c.behind.at - 1) 0) (sym c.as_bytes-bytes.ensures.value) ∙ eqb-true _ _ (sym c.is_separator.ensures ∙ c.if-is_separator.true) in
    IsCharBoundary-before_ascii c.args.text.now (c.behind.at - 1) (omega (arith, c.behind-test.true, c.behind.invariant.inside, ap length c.as_bytes-bytes.ensures.value)) (omega (arith, one))

pub range_from-requires : goal.range_from-requires
range_from-requires c = λ some.
    let one : get_or c.args.text.now (c.behind.at - 1) 0 ≡ 49 = ap (λ (t : List ℕ). get_or t (c.behind.at - 1) 0) (sym c.as_bytes-bytes.ensures.value) ∙ eqb-true _ _ (sym c.is_separator.ensures ∙ c.if-is_separator.true) in
    IsCharBoundary-after_ascii c.args.text.now (c.behind.at - 1) c.utf8.text (omega (arith, c.behind-test.true, c.behind.invariant.inside, ap length c.as_bytes-bytes.ensures.value)) (omega (arith, one))

pub returns-then-is_separator : goal.returns-then-is_separator
returns-then-is_separator c =
    let text = c.args.text.now in
    let at : ℕ = c.behind.at - 1 in
    let one : get_or text at 0 ≡ 49 = ap (λ (t : List ℕ). get_or t at 0) (sym c.as_bytes-bytes.ensures.value) ∙ eqb-true _ _ (sym c.is_separator.ensures ∙ c.if-is_separator.true) in
    let within : at < length text = omega (arith, c.behind-test.true, c.behind.invariant.inside, ap length c.as_bytes-bytes.ensures.value) in
    let next : at + 1 ≡ c.behind.at = omega (arith, c.behind-test.true) in
    let none : split_at_last (drop (at + 1) text) ≡ None =
    ap (λ (k : ℕ). split_at_last (drop k text)) next ∙ ap (λ (t : List ℕ). split_at_last (drop c.behind.at t)) (sym c.as_bytes-bytes.ensures.value) ∙ c.behind.invariant.none in
    cut-at text c.range.result.now c.range_from.result.now at within one none (c.range.ensures.value ∙ sym (front-slice text at)) c.range_from.ensures.value

pub behind-preserved : goal.behind-preserved
behind-preserved c = record {
  inside = omega (arith, c.behind.invariant.inside);
  none = none-before c.as_bytes-bytes.result.now c.behind.at (c.behind.at - 1) c.behind-test.true c.behind.invariant.inside refl c.behind.invariant.none (sym c.is_separator.ensures ∙ c.if-is_separator.false);
}

pub returns : goal.returns
returns c =
    let end : c.behind.at ≡ 0 = omega (arith, c.behind-test.false) in
    ap split_at_last (sym c.as_bytes-bytes.ensures.value) ∙ subst (λ (k : ℕ). split_at_last (drop k c.as_bytes-bytes.result.now) ≡ None) end c.behind.invariant.none
