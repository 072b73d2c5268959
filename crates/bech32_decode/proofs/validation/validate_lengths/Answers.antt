use Rattle.std.proofs.Common.{arith}
use Rattle.bech32_decode.proofs.validation.validate_lengths.Goals as goal

pub returns-then-data_length-CHECKSUM_LENGTH : goal.returns-then-data_length-CHECKSUM_LENGTH
returns-then-data_length-CHECKSUM_LENGTH g c =
    let degree = g.met.Ck.Checksum.degree_law in
    let size = g.met.Ck.Checksum.code_length_law in
    let longest = c.CODE_LENGTH.ensures in
    let count = c.CHECKSUM_LENGTH.ensures in
    (λ hrp data_part is. (omega arith, omega arith), λ fits. let room = fits.1 in absurd (omega arith))

pub returns : goal.returns
returns g c =
    let degree = g.met.Ck.Checksum.degree_law in
    let size = g.met.Ck.Checksum.code_length_law in
    let longest = c.CODE_LENGTH.ensures in
    let count = c.CHECKSUM_LENGTH.ensures in
    (omega arith, omega arith)
