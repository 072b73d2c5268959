use Rattle.std.proofs.Common.{◌≡◌, ◌%◌, ap, rules, arith, ◌∙◌}
use Rattle.bech32_gf.specs.declared.gf32.Fe32.{Fe32 as Element}
use Rattle.bech32_detect.proofs.TermRows.{values_end, values_more, values_start}
use Rattle.bech32_detect.proofs.rows.term_rows.Goals as goal

pub loop-value-init : goal.loop-value-init
loop-value-init g c = values_start _ _ _ (search rules)

pub loop-value-preserved : goal.loop-value-preserved
loop-value-preserved g c =
    let low : c.loop-value.value % 32 ≡ c.loop-value.value = omega arith in
    let same : c.from_low_bits.result.value ≡ c.loop-value.value = ap (λ (e : Element). e.value) c.from_low_bits.ensures ∙ low in
    values_more _ _ _ _ c.loop-value.value c.from_low_bits.result c.loop-value.invariant (omega arith) same c.in_ok-push_terms.ensures

pub returns : goal.returns
returns g c = values_end _ _ _ c.loop-value.value c.loop-value.invariant (omega arith)
