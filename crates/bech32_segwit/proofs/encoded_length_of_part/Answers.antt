use Rattle.std.proofs.Common.{arith}
use Rattle.bech32_bits.proofs.RoundTrip.{length-to_fes}
use Rattle.bech32_segwit.proofs.encoded_length_of_part.Goals as goal

pub returns-then-length-gt-MAX_STRING_LENGTH : goal.returns-then-length-gt-MAX_STRING_LENGTH
returns-then-length-gt-MAX_STRING_LENGTH c =
    let elements = length-to_fes c.args.witness_program.now in
    let others = c.text_length_of_part.ensures in
    let all = c.saturating_add-length.ensures in
    let over = c.if-length-gt-MAX_STRING_LENGTH.true in
    (omega arith, omega arith)

pub returns : goal.returns
returns c =
    let elements = length-to_fes c.args.witness_program.now in
    let others = c.text_length_of_part.ensures in
    let all = c.saturating_add-length.ensures in
    let fits = c.if-length-gt-MAX_STRING_LENGTH.false in
    (omega arith, omega arith)
