use Rattle.std.proofs.Common.{rules, ◌≡◌, ◌≤◌, length, take, sym, ◌∙◌}
use Rattle.bech32_checksum.proofs.Target.{length-target}
use Rattle.bech32_correction.proofs.Outcomes.{error_answered}
use Rattle.bech32_correction.proofs.Residues.{refused_by_rest, residue_not_zero}
use Rattle.bech32_correction.proofs.in_place.error_of_read.Goals as goal

pub lookup_single_error-requires-clause-not_zero : goal.lookup_single_error-requires-clause-not_zero
lookup_single_error-requires-clause-not_zero g c =
    let code = g.Ck.Checksum.code in
    let s = c.args.reading.now in
    let size : length code.target ≡ length code.generator =
    length-target g.Ck.MidstateRepr.PackedFe32.number code _ _ g.Ck.Checksum.GENERATOR_SH g.Ck.Checksum.TARGET_RESIDUE g.met.Ck.Checksum.code_law
    ∙ sym g.met.Ck.Checksum.degree_law in
    let degree : length code.generator ≡ c.CHECKSUM_LENGTH.result = g.met.Ck.Checksum.degree_law ∙ sym c.CHECKSUM_LENGTH.ensures in
    let within : c.CHECKSUM_LENGTH.result ≤ length c.error_residue-residue.result = search rules in
    let refused = refused_by_rest code s.text.now s.hrp.now s.data_part.now c.error_residue-residue.result c.CHECKSUM_LENGTH.result s.is_reading.grammar
    c.requires.lengths size degree within c.error_residue-residue.ensures c.requires.refused in
    residue_not_zero code s.text.now s.hrp.now s.data_part.now (take c.CHECKSUM_LENGTH.result c.error_residue-residue.result) size refused

pub returns : goal.returns
returns g c =
    let code = g.Ck.Checksum.code in
    let s = c.args.reading.now in
    let size : length code.target ≡ length code.generator =
    length-target g.Ck.MidstateRepr.PackedFe32.number code _ _ g.Ck.Checksum.GENERATOR_SH g.Ck.Checksum.TARGET_RESIDUE g.met.Ck.Checksum.code_law
    ∙ sym g.met.Ck.Checksum.degree_law in
    let degree : length code.generator ≡ c.CHECKSUM_LENGTH.result = g.met.Ck.Checksum.degree_law ∙ sym c.CHECKSUM_LENGTH.ensures in
    let within : c.CHECKSUM_LENGTH.result ≤ length c.error_residue-residue.result = search rules in
    let refused = refused_by_rest code s.text.now s.hrp.now s.data_part.now c.error_residue-residue.result c.CHECKSUM_LENGTH.result s.is_reading.grammar
    c.requires.lengths size degree within c.error_residue-residue.ensures c.requires.refused in
    error_answered code g.Ck.Checksum.bound s.text.now s.hrp.now s.data_part.now (take c.CHECKSUM_LENGTH.result c.error_residue-residue.result) c.lookup_single_error.result
    refused c.lookup_single_error.ensures
