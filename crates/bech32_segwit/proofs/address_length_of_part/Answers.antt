use Rattle.std.proofs.Common.{◌∙◌, arith}
use Rattle.std.proofs.lemmas.Result.{err_from_is_err_and}
use Rattle.bech32_segwit.proofs.SegwitEncoding.{address_exists, no_more_of_part}
use Rattle.bech32_segwit.proofs.address_length_of_part.Goals as goal

pub returns-in_err-encoded_length_of_part : goal.returns-in_err-encoded_length_of_part
returns-in_err-encoded_length_of_part c =
    let p = err_from_is_err_and c.from_residual-in_err-encoded_length_of_part.result c.from_residual-in_err-encoded_length_of_part.ensures.1 in
    let over = c.in_err-encoded_length_of_part.ensures in
    rw p.1 (rw p.2 (
      (
        c.in_ok-validate_witness_version.ensures,
        c.in_ok-validate_witness_program_length.ensures,
        over.0,
        over.1 ∙ no_more_of_part c.args.part.now c.args.witness_program.now (omega arith) c.in_ok-validate_witness_program_length.ensures.not_long,
      ),
      λ e. cc e,
    ))

pub returns : goal.returns
returns c =
    let length = c.in_ok-encoded_length_of_part.ensures in (
      address_exists c.args.part.now c.args.witness_version c.args.witness_program.now c.in_ok-validate_witness_version.ensures c.in_ok-validate_witness_program_length.ensures (omega arith),
      length.0,
    )
