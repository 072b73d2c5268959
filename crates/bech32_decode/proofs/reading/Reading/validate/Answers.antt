use Rattle.std.proofs.Common.{refl}
use Rattle.std.proofs.lemmas.Result.{err_from_is_err_and}
use Rattle.bech32_decode.proofs.Readings.{residue-from_reading}
use Rattle.bech32_decode.proofs.reading.Reading.validate.Goals as goal

pub validate_residue-requires : goal.validate_residue-requires
validate_residue-requires g c =
    let degree = g.met.Ck.Checksum.degree_law in
    rw degree at c.args.self.now.is_reading.clear

pub returns-in_err-validate_lengths : goal.returns-in_err-validate_lengths
returns-in_err-validate_lengths g c =
    let p = err_from_is_err_and c.from_residual.result c.from_residual.ensures.1 in
    rw (p.1, p.2) (c.in_err-validate_lengths.ensures.0 c.args.self.now.hrp.now c.args.self.now.data_part.now refl)

pub returns-in-Ok : goal.returns-in-Ok
returns-in-Ok g c =
    let s = c.args.self.now in
    let lengths = c.in_ok-validate_lengths.ensures in
    let leaves = residue-from_reading g.Ck.MidstateRepr.PackedFe32.number g.Ck.Checksum.code s.text.now s.hrp.now s.data_part.now s.residue s.is_reading in
    record {
      grammar = c.args.self.now.is_reading.grammar;
      text_length = lengths.0;
      data_length = lengths.1;
      has_target = c.in-Ok.ensures _ leaves;
    }

pub returns-in-Err : goal.returns-in-Err
returns-in-Err g c =
    let s = c.args.self.now in
    let lengths = c.in_ok-validate_lengths.ensures in
    let leaves = residue-from_reading g.Ck.MidstateRepr.PackedFe32.number g.Ck.Checksum.code s.text.now s.hrp.now s.data_part.now s.residue s.is_reading in
    (lengths.0, lengths.1, c.in-Err.ensures _ leaves)
