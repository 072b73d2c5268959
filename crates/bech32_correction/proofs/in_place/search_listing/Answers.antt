use Rattle.std.proofs.Common.{rules, ◌≡◌, ◌≤◌, [], length, take, refl, sym, ◌∙◌}
use Rattle.bech32_checksum.proofs.Target.{length-target}
use Rattle.bech32_correction.proofs.Outcomes.{answered, corrector_of, inside_code, part_fits}
use Rattle.bech32_correction.proofs.Residues.{refused_by_rest}
use Rattle.bech32_correction.proofs.in_place.search_listing.Goals as goal

pub listing_of_residue-requires : goal.listing_of_residue-requires
listing_of_residue-requires g c =
    let s = c.args.reading.now in
    inside_code g.Ck.Checksum.code (length s.data_part.now) (length s.text.now) g.Ck.Checksum.CODE_LENGTH (length s.data_part.now)
    (part_fits s.text.now s.hrp.now s.data_part.now s.is_reading.grammar) c.requires.lengths.0 g.met.Ck.Checksum.code_length_law refl

pub returns : goal.returns
returns g c =
    let code = g.Ck.Checksum.code in
    let s = c.args.reading.now in
    let size : length code.target ≡ length code.generator =
    length-target g.Ck.MidstateRepr.PackedFe32.number code _ _ g.Ck.Checksum.GENERATOR_SH g.Ck.Checksum.TARGET_RESIDUE g.met.Ck.Checksum.code_law
    ∙ sym g.met.Ck.Checksum.degree_law in
    let degree : length code.generator ≡ c.CHECKSUM_LENGTH.result = g.met.Ck.Checksum.degree_law ∙ sym c.CHECKSUM_LENGTH.ensures in
    let within : c.CHECKSUM_LENGTH.result ≤ length c.error_residue-residue.result = search rules in
    let refused = refused_by_rest code s.text.now s.hrp.now s.data_part.now c.error_residue-residue.result c.CHECKSUM_LENGTH.result s.is_reading.grammar
    c.requires.lengths size degree within c.error_residue-residue.ensures c.requires.refused in
    answered code g.Ck.Checksum.bound s.text.now c.args.erasures.now
    (record { residue = take c.CHECKSUM_LENGTH.result c.error_residue-residue.result; window = length s.data_part.now; erasures = [] }) c.listing_of_residue.result
    (corrector_of code s.text.now s.hrp.now s.data_part.now (take c.CHECKSUM_LENGTH.result c.error_residue-residue.result) (length s.data_part.now) _ refused refl refl)
    c.listing_of_residue.ensures
