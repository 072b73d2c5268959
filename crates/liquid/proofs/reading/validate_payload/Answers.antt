use Rattle.std.proofs.Common.{◌-◌, ◌∙◌, ℕ, List, length, ap, subst, arith}
use Rattle.std.proofs.lemmas.Result.{err_from_is_err_and}
use Rattle.bech32_gf.specs.Fe32.{elements_of}
use Rattle.bech32_bits.specs.Bits.{to_bytes}
use Rattle.bech32_refusals.specs.SegwitRules.{IsLengthRefusal, IsProgramLength}
use Rattle.liquid.proofs.reading.validate_payload.Goals as goal

pub returns-in_err-validate_segwit_padding : goal.returns-in_err-validate_segwit_padding
returns-in_err-validate_segwit_padding c =
    let p = err_from_is_err_and c.from_residual.result c.from_residual.ensures.1 in
    rw p.1 (rw p.2 c.in_err-validate_segwit_padding.ensures)

pub returns-then-count-lt-KEY_LENGTH : goal.returns-then-count-lt-KEY_LENGTH
returns-then-count-lt-KEY_LENGTH c =
    let same = c.data_bytes_count-count.ensures ∙ ap (λ (l : List ℕ). length (to_bytes (elements_of l))) c.data_part_ascii_no_checksum.ensures.value in
    (c.in_ok-validate_segwit_padding.ensures, omega (arith, same, c.if-count-lt-KEY_LENGTH.true))

pub returns-in_err-validate_witness_program_length : goal.returns-in_err-validate_witness_program_length
returns-in_err-validate_witness_program_length c =
    let same = c.data_bytes_count-count.ensures ∙ ap (λ (l : List ℕ). length (to_bytes (elements_of l))) c.data_part_ascii_no_checksum.ensures.value in
    let p = err_from_is_err_and c.from_residual-in_err-validate_witness_program_length.result c.from_residual-in_err-validate_witness_program_length.ensures.1 in
    rw p.1 (rw p.2 (
      c.in_ok-validate_segwit_padding.ensures,
      omega (arith, same, c.if-count-lt-KEY_LENGTH.false),
      subst (λ (n : ℕ). IsLengthRefusal c.args.version (n - 33) c.in_err-validate_witness_program_length.field-0.0) same c.in_err-validate_witness_program_length.ensures,
    ))

pub returns : goal.returns
returns c =
    let same = c.data_bytes_count-count.ensures ∙ ap (λ (l : List ℕ). length (to_bytes (elements_of l))) c.data_part_ascii_no_checksum.ensures.value in
    record {
      padded = c.in_ok-validate_segwit_padding.ensures;
      has_key = omega (arith, same, c.if-count-lt-KEY_LENGTH.false);
      program_length = subst (λ (n : ℕ). IsProgramLength c.args.version (n - 33)) same c.in_ok-validate_witness_program_length.ensures;
    }
