use Rattle.std.specs.Str.{IsAscii}
use Rattle.std.proofs.Common.{◌≡◌, ◌+◌, ◌-◌, ◌<◌, ℕ, List, length, take, get_or, inr, sym, ap, subst, ◌∙◌, arith}
use Rattle.std.proofs.lemmas.Result.{err_from_is_err_and}
use Rattle.bech32_correction.proofs.Ascii.{ascii_text}
use Rattle.bech32_decode.specs.Refusals.{HasValidChecksum}
use Rattle.bech32_decode.proofs.Decoding.{accepted}
use Rattle.codex32.specs.Code.{code_of_length}
use Rattle.codex32.specs.Strings.{is_within_either}
use Rattle.codex32.proofs.HeaderFaults.{body_refused}
use Rattle.codex32.proofs.ShareParts.{fits, payload_of_text, target_of_text}
use Rattle.codex32.proofs.ShareStrings.{share_of_text}
use Rattle.codex32.proofs.Refused.{framed_by-from, lowered_ms}
use Rattle.codex32.proofs.share.Share.read.Goals as goal

pub returns-in_err-validate_header : goal.returns-in_err-validate_header
returns-in_err-validate_header c =
    let text = c.args.text.now in
    let hrp : List ℕ = take 2 text in
    let given : List ℕ = c.in_ok-data_part.data_part.now in
    let read = c.in_ok-data_part.ensures in
    let valid = subst (λ (t : List ℕ). HasValidChecksum (code_of_length (length text)) (length text) (take 2 t) given) c.as_bytes.ensures.value c.in_ok-validate_checksum.ensures in
    let is = accepted (code_of_length (length text)) text hrp given read.1 valid in
    let p = err_from_is_err_and c.from_residual-in_err-validate_header.result c.from_residual-in_err-validate_header.ensures.1 in
    rw p.1 (rw p.2 (inr (record {
      hrp = hrp;
      data_part = given;
      grammar = read.1;
      framed = read.0;
      refusal = body_refused (code_of_length (length text)) text hrp given _ is c.in_err-validate_header.ensures;
    })))

pub range-requires-clause-start_boundary : goal.range-requires-clause-start_boundary
range-requires-clause-start_boundary c = λ _.
    let text = c.args.text.now in
    let given : List ℕ = c.in_ok-data_part.data_part.now in
    let read = c.in_ok-data_part.ensures in
    let ascii : IsAscii text = ascii_text text (take 2 text) given read.1 in
    let framed = framed_by-from is_within_either text (take 2 text) given read.0 read.1 in
    let sized = fits (length text) framed.within in
    let low : get_or text 9 0 < 128 = ascii 9 in
    (omega (arith, sized.least), λ l high. absurd (omega (arith, low, high)))

pub range-requires-clause-end_boundary : goal.range-requires-clause-end_boundary
range-requires-clause-end_boundary c =
    let text = c.args.text.now in
    let ascii : IsAscii text = ascii_text text (take 2 text) c.in_ok-data_part.data_part.now c.in_ok-data_part.ensures.1 in
    let low : get_or text (length text - c.checksum_length.result) 0 < 128 = ascii (length text - c.checksum_length.result) in
    (omega arith, λ l high. absurd (omega (arith, low, high)))

pub invariant_of-result : goal.invariant_of-result
invariant_of-result c =
    let text = c.args.text.now in
    let hrp : List ℕ = take 2 text in
    let given : List ℕ = c.in_ok-data_part.data_part.now in
    let read = c.in_ok-data_part.ensures in
    let framed = framed_by-from is_within_either text hrp given read.0 read.1 in
    let size : length text ≡ 3 + length given = framed.size in
    let valid = subst (λ (t : List ℕ). HasValidChecksum (code_of_length (length text)) (length text) (take 2 t) given) c.as_bytes.ensures.value c.in_ok-validate_checksum.ensures in
    record {
      of_alphabet = read.1.data_bytes;
      within = ap is_within_either (sym size) ∙ framed.within;
      has_target = target_of_text text hrp given size (lowered_ms hrp framed.is_ms) valid.2;
      header_is = sym c.of_data_part.ensures;
      payload_is = c.range.ensures.value ∙ payload_of_text text hrp given c.checksum_length.result read.1.split framed.two c.checksum_length.ensures;
    }

pub returns : goal.returns
returns c =
    let text = c.args.text.now in
    let hrp : List ℕ = take 2 text in
    let given : List ℕ = c.in_ok-data_part.data_part.now in
    let read = c.in_ok-data_part.ensures in
    let framed = framed_by-from is_within_either text hrp given read.0 read.1 in
    let valid = subst (λ (t : List ℕ). HasValidChecksum (code_of_length (length text)) (length text) (take 2 t) given) c.as_bytes.ensures.value c.in_ok-validate_checksum.ensures in
    share_of_text text hrp _ read.1 (accepted (code_of_length (length text)) text hrp given read.1 valid) framed.is_ms framed.size
