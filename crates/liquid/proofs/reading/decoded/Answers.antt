use Rattle.std.proofs.Common.{◌∙◌, ℕ, List, drop, sym, subst}
use Rattle.std.proofs.lemmas.Result.{err_from_is_err_and}
use Rattle.bech32_gf.specs.Fe32.{elements_of}
use Rattle.blech32.specs.Words.{blech32_code}
use Rattle.bech32_decode.proofs.Addresses.{versioned-before}
use Rattle.liquid.specs.Refusals.{IsKeyAndProgramRefusal}
use Rattle.liquid.proofs.Refused.{checksum_there, nothing_there, other_there, payload_there}
use Rattle.liquid.proofs.Versions.{none_before, some_characters}
use Rattle.liquid.proofs.reading.decoded.Goals as goal

pub returns-in_err-version : goal.returns-in_err-version
returns-in_err-version c =
    let s = c.args.reading.now in
    let p = err_from_is_err_and c.from_residual.result c.from_residual.ensures.1 in
    rw p.1 (rw p.2 (other_there blech32_code s.text.now s.hrp.now s.data_part.now c.in_err-version.field-0.0 s.is_reading.grammar c.in_err-version.ensures))

pub returns-in_err-validate : goal.returns-in_err-validate
returns-in_err-validate c =
    let s = c.args.reading.now in
    let v = c.in_ok-version.version in
    let p = err_from_is_err_and c.from_residual-in_err-validate.result c.from_residual-in_err-validate.ensures.1 in
    rw p.1 (rw p.2 (checksum_there blech32_code s.text.now s.hrp.now s.data_part.now v _ c.in_ok-version.ensures.0 c.in_ok-version.ensures.1
    c.in_err-validate.field-0.0 s.is_reading.grammar c.in_err-validate.ensures))

pub checked-checked-requires : goal.checked-checked-requires
checked-checked-requires c = c.in_ok-validate.ensures.data_length

pub returns-in_default : goal.returns-in_default
returns-in_default c =
    let s = c.args.reading.now in
    let v = c.in_ok-version.version in
    nothing_there blech32_code s.text.now s.hrp.now s.data_part.now v _ c.in_ok-version.ensures.0 c.in_ok-version.ensures.1
    c.in_ok-validate.ensures _ c.checked-checked.ensures.before
    (none_before blech32_code s.data_part.now _ v _ c.checked-checked.ensures.before c.in_ok-version.ensures.0 c.in_ok-version.ensures.1 (sym c.remove_witness_version.ensures.version ∙ c.in_default.is))

pub returns-in_err-validate_payload : goal.returns-in_err-validate_payload
returns-in_err-validate_payload c =
    let s = c.args.reading.now in
    let v = c.in_ok-version.version in
    let checked = c.checked-checked.result.ascii.now in
    let some = some_characters checked c.in-Some.field-0 (sym c.remove_witness_version.ensures.version ∙ c.in-Some.is) in
    let begins = versioned-before blech32_code s.data_part.now checked v _ c.checked-checked.ensures.before c.in_ok-version.ensures.0 some in
    let p = err_from_is_err_and c.from_residual-in_err-validate_payload.result c.from_residual-in_err-validate_payload.ensures.1 in
    let e = c.in_err-validate_payload.field-0.0 in
    rw p.1 (rw p.2 (payload_there blech32_code s.text.now s.hrp.now s.data_part.now v _ c.in_ok-version.ensures.0 c.in_ok-version.ensures.1
    c.in_ok-validate.ensures checked c.checked-checked.ensures.before (elements_of (drop 1 checked)) e begins.parts
    (subst (λ (l : List ℕ). IsKeyAndProgramRefusal v (elements_of l) e) c.in-Some.ensures.rest c.in_err-validate_payload.ensures)))
