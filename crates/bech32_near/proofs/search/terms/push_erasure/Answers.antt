use Rattle.std.proofs.Common.{◌≡◌, ◌<◌, ◌∷◌, [], ℕ, List, min, sym, ap, subst, ◌∙◌, arith}
use Rattle.std.proofs.Math.Decide.{dec_lt}
use Rattle.bech32_gf.specs.Fe32 as fe32
use Rattle.bech32_gf.specs.declared.gf32.Fe32.{Fe32}
use Rattle.bech32_poly.specs.Division.{remainder_of}
use Rattle.bech32_poly.specs.Pattern.{pattern_polynomial}
use Rattle.bech32_checksum.specs.Code.{IsResidueOf}
use Rattle.bech32_near.specs.search.Sketch.{cleared_by, sketch, sketch_at}
use Rattle.bech32_near.proofs.SketchSums.{at-zero, one_term, sketch-row}
use Rattle.bech32_near.proofs.search.terms.push_erasure.Goals as goal

pub loop-value-init : goal.loop-value-init
loop-value-init g c = record { erased = λ v some low. absurd (omega (arith, some, low)); kept = λ other none. none }

pub loop-value-preserved : goal.loop-value-preserved
loop-value-preserved g c =
    let size : ℕ = min g.Ck.Checksum.CHECKSUM_LENGTH 12 in
    let code = g.Ck.Checksum.code in
    let number = g.Ck.MidstateRepr.PackedFe32.number in
    let new = c.push_row.new.rows.items in
    let location : ℕ = c.args.location in
    let value = c.from_low_bits.result in
    let shown : IsResidueOf number code c.residue.result.now (pattern_polynomial fe32.ops ((location, value) ∷ [])) =
    subst (λ r. IsResidueOf number code r (pattern_polynomial fe32.ops ((location, value) ∷ []))) (sym c.residue.ensures.value) c.listed_engine-engine.ensures in
    let none : sketch_at new size code.generator location value ≡ 0 =
    ap (λ (p : List Fe32). sketch new size (remainder_of fe32.ops code.generator p)) (sym (one_term new size code.generator (location, value)))
    ∙ sym (sketch-row new size number code c.residue.result.now g.Ck.Checksum.CHECKSUM_LENGTH (pattern_polynomial fe32.ops ((location, value) ∷ [])) g.met.Ck.Checksum.degree_law c.residue.ensures.clear shown)
    ∙ ap (cleared_by new) (sym c.number_of.ensures)
    ∙ c.in_ok-push_row.ensures.0 in
    record {
      erased = λ v some low. elim (dec_lt v.value c.loop-value.value) [
        | yes p ↦ c.in_ok-push_row.ensures.1 _ (c.loop-value.invariant.erased v some p)
        | no p ↦
            let same : value ≡ v = c.from_low_bits.ensures ∙ fe32.path (fe32.element c.loop-value.value) v (omega (arith, p, low, v.in_field)) in
            subst (λ (u : Fe32). sketch_at new size code.generator location u ≡ 0) same none
      ];
      kept = λ other before. c.in_ok-push_row.ensures.1 other (c.loop-value.invariant.kept other before);
    }

pub returns : goal.returns
returns g c = (
  λ v. elim (dec_lt 0 v.value) [
    | yes p ↦ c.loop-value.invariant.erased v p (let low : v.value < 32 = v.in_field in omega (arith, low))
    | no p ↦
        ap (sketch_at c.loop-value.rows.items (min g.Ck.Checksum.CHECKSUM_LENGTH 12) g.Ck.Checksum.code.generator c.args.location) (fe32.path v fe32.zero (omega (arith, p)))
        ∙ at-zero c.loop-value.rows.items (min g.Ck.Checksum.CHECKSUM_LENGTH 12) g.Ck.Checksum.code.generator c.args.location
  ],
  c.loop-value.invariant.kept,
)
