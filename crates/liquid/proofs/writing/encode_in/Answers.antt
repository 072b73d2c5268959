use Rattle.std.proofs.Common.{◌≡◌, Ok, length, refl, rules, string_bytes, take}
use Rattle.std.proofs.lemmas.Result.{err_from_is_err_and}
use Rattle.bech32_hrp.specs.HrpBytes.{hrp_bytes}
use Rattle.blech32.specs.Words.{blech32_code}
use Rattle.liquid.specs.Writing.{IsVersionAndLength}
use Rattle.liquid.proofs.Written.{lower-from_text, only_memory, spelling-from_outcome}
use Rattle.liquid.proofs.writing.encode_in.Goals as goal

pub returns-in_err-validate-clause-exists : goal.returns-in_err-validate-clause-exists
returns-in_err-validate-clause-exists g c lawful =
    let p = err_from_is_err_and c.from_residual.result c.from_residual.ensures.1 in
    rw p.1 (rw p.2 (only_memory c.args.witness_version (length c.args.program.now) c.in_err-validate.field-0.0 lawful c.in_err-validate.ensures.0))

pub returns-in_err-validate-clause-spelling : goal.returns-in_err-validate-clause-spelling
returns-in_err-validate-clause-spelling g c h t same a =
    let p = err_from_is_err_and c.from_residual.result c.from_residual.ensures.1 in
    let lawful : IsVersionAndLength c.args.witness_version (length c.args.program.now) = record { version_is = a.address.version_is; program_length = a.address.program_length } in
    rw p.1 (rw p.2 (only_memory c.args.witness_version (length c.args.program.now) c.in_err-validate.field-0.0 lawful c.in_err-validate.ensures.0, tt))

pub returns-in_err-text-clause-exists : goal.returns-in_err-text-clause-exists
returns-in_err-text-clause-exists g c lawful =
    let p = err_from_is_err_and c.from_residual-in_err-text.result c.from_residual-in_err-text.ensures.1 in rw p.1 p.2

pub returns-in_err-text-clause-spelling : goal.returns-in_err-text-clause-spelling
returns-in_err-text-clause-spelling g c h t same a =
    let p = err_from_is_err_and c.from_residual-in_err-text.result c.from_residual-in_err-text.ensures.1 in rw p.1 (rw p.2 (refl, tt))

pub returns-clause-spelling : goal.returns-clause-spelling
returns-clause-spelling g c =
    let key = c.args.blinding_key.now in
    let program = c.args.program.now in
    let payload = take c.payload_of-count.result.1 c.payload_of-count.result.0 in
    let of_key : length key ≡ 33 = search rules in
    spelling-from_outcome blech32_code string_bytes (hrp_bytes c.args.hrp) c.args.witness_version key program (Ok c.in_ok-text.text)
    (lower-from_text blech32_code (hrp_bytes c.args.hrp) c.args.witness_version key program payload (string_bytes c.in_ok-text.text) c.in_ok-validate.ensures of_key
    c.payload_of-count.ensures.bytes c.in_ok-text.ensures) tt
