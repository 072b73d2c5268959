use Rattle.std.proofs.Common.{arith}
use Rattle.codex32_steady.proofs.texts.residue.validate_data_part.Goals as goal

pub returns-in-None : goal.returns-in-None
returns-in-None g c =
    let degree = g.met.Ck.Checksum.degree_law in
    let size = g.met.Ck.Checksum.code_length_law in
    let longest = c.CODE_LENGTH.ensures in
    let count = c.CHECKSUM_LENGTH.ensures in (
      omega (arith, size, longest, c.if-count-CODE_LENGTH.false),
      omega (arith, degree, count, c.if-data_part-CHECKSUM_LENGTH.false),
      rw c.in-None.is at c.residue_error_of.ensures,
    )

pub returns-in-Some : goal.returns-in-Some
returns-in-Some g c =
    let degree = g.met.Ck.Checksum.degree_law in
    let size = g.met.Ck.Checksum.code_length_law in
    let longest = c.CODE_LENGTH.ensures in
    let count = c.CHECKSUM_LENGTH.ensures in (
      omega (arith, size, longest, c.if-count-CODE_LENGTH.false),
      omega (arith, degree, count, c.if-data_part-CHECKSUM_LENGTH.false),
      rw c.in-Some.is at c.residue_error_of.ensures,
    )
