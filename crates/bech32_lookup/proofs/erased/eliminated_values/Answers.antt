use Rattle.std.proofs.Common.{◌≡◌, length, sym, ◌∙◌, refl}
use Rattle.bech32_gf.specs.Fe32 as fe32
use Rattle.bech32_gf.specs.laws.Fe32Laws.{is_field}
use Rattle.bech32_poly.specs.Polynomial.{coefficient}
use Rattle.bech32_lookup.specs.Equations.{entry}
use Rattle.bech32_lookup.proofs.Elimination.{said}
use Rattle.bech32_lookup.proofs.ErasedPatterns.{behind_one, solved, solves}
use Rattle.bech32_lookup.proofs.erased.eliminated_values.Goals as goal

pub returns : goal.returns
returns g c =
    let generator = g.Ck.Checksum.code.generator in
    let residue = c.args.residue.now in
    let s = c.args.erasures.now in
    let size = c.CHECKSUM_LENGTH-size.result in
    let degree : length g.Ck.Checksum.code.generator ≡ c.CHECKSUM_LENGTH-size.result = g.met.Ck.Checksum.degree_law ∙ sym c.CHECKSUM_LENGTH-size.ensures in
    let ends = c.ends_at.ensures.0 c.if-not-ends_at.false in
    said c.values_of.result
    (λ none value h. none (behind_one is_field value) refl
    (solves is_field (λ x. refl) generator residue s (entry c.rows_of-rows.result) size degree ends c.rows_of-rows.ensures.first c.rows_of-rows.ensures.others value h))
    (λ values h. solved is_field (λ x. refl) generator residue s (entry c.rows_of-rows.result) size degree ends c.rows_of-rows.ensures.first c.rows_of-rows.ensures.others (coefficient fe32.ops values) h.0 h.1)
    c.values_of.ensures
