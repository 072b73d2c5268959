use Rattle.std.proofs.Common.{◌∙◌, ◌≤◌, ◌∷◌, ◌++◌, length, arith, codes, refl}
use Rattle.std.proofs.lemmas.Result.{err_from_is_err_and}
use Rattle.bech32_bits.specs.Bits.{to_fes}
use Rattle.bech32_checksum.specs.Encoded.{IsEncodedText}
use Rattle.bech32_checksum.proofs.Uniqueness.{length-encoded}
use Rattle.bech32_decode.specs.Segwit.{IsLowerAddress, segwit_code}
use Rattle.bech32_segwit.specs.SegwitEncoding.{HasAddress}
use Rattle.line_program.proofs.Pieces.{two-pieces}
use Rattle.b32_replies.specs.Reply.{IsEncodedAddressFault}
use Rattle.b32_replies.proofs.SegwitReplies.{says-bad_hrp, says-address, says-no_address}
use Rattle.b32_replies.proofs.segwit_encode.append_address.Goals as goal
use Rattle.bech32_refusals.specs.SegwitRules.{max_address_length}

pub returns-in_err-hrp-clause-answer : goal.returns-in_err-hrp-clause-answer
returns-in_err-hrp-clause-answer c = λ word hex is some.
    let p = err_from_is_err_and c.from_residual.result c.from_residual.ensures.1 in
    let (e, spelled, refused) = c.in_err-hrp.ensures in
    rw p.1 (rw (p.2 ∙ spelled) (says-bad_hrp c.args.hrp.now word hex c.args.version is c.args.program.now some e refused, refl))

pub returns-in_err-count-clause-answer : goal.returns-in_err-count-clause-answer
returns-in_err-count-clause-answer c = λ word hex is some.
    let p = err_from_is_err_and c.from_residual-in_err-count.result c.from_residual-in_err-count.ensures.1 in
    let (e, spelled, refused) = c.in_err-count.ensures in
    let refusal : IsEncodedAddressFault c.args.hrp.now c.args.version c.args.program.now e = rw c.in_ok-hrp.ensures.1 at refused in
    rw p.1 (rw (p.2 ∙ spelled) (says-no_address c.args.hrp.now word hex c.args.version is c.args.program.now some e c.in_ok-hrp.ensures.0 refusal, refl))

pub returns-clause-answer : goal.returns-clause-answer
returns-clause-answer c = λ word hex is some.
    let part = c.args.hrp.now in
    let elements = c.args.version ∷ to_fes c.args.program.now in
    let hrp = c.in_ok-hrp.ensures.1 in
    let (text, is_text, added) = c.append_by_version.ensures.text in
    let has : HasAddress c.args.hrp.now c.args.version c.args.program.now = rw hrp at c.in_ok-count.ensures.0 in
    let encoded : IsEncodedText (segwit_code c.args.version) c.args.hrp.now (c.args.version ∷ to_fes c.args.program.now) text = rw hrp at is_text in
    let size : length text ≤ max_address_length =
    omega (arith, length-encoded (segwit_code c.args.version) part elements text encoded, length-encoded (segwit_code c.args.version) part elements has.0 has.1.encoded, has.1.text_length) in
    let address : IsLowerAddress c.args.hrp.now c.args.version c.args.program.now text =
    record { version_fits = has.1.version_fits; program_length = has.1.program_length; text_length = size; encoded = encoded } in
    record {
      said = codes "ok " ++ text;
      says = says-address c.args.hrp.now word hex c.args.version is c.args.program.now some text c.in_ok-hrp.ensures.0 address;
      size = omega (arith, size);
      added = two-pieces c.args.out.now.items (codes "ok ") text _ _ c.append.ensures.items added;
    }
