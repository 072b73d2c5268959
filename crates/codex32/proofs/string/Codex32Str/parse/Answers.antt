use Rattle.std.proofs.Common.{ℕ, List, Ok, inr, length, take, subst, rules}
use Rattle.std.proofs.lemmas.Result.{err_from_is_err_and}
use Rattle.bech32_correction.proofs.Ascii.{ascii_text}
use Rattle.bech32_decode.specs.Refusals.{HasValidChecksum}
use Rattle.bech32_decode.proofs.Decoding.{accepted}
use Rattle.codex32.specs.Code.{codex32}
use Rattle.codex32.proofs.HeaderFaults.{body_refused}
use Rattle.codex32.proofs.Refused.{framed-from}
use Rattle.codex32.proofs.Strings.{accepts-from_outcome, string_of}
use Rattle.codex32.proofs.string.Codex32Str.parse.Goals as goal

pub returns-in_err-data_part-clause-accepts : goal.returns-in_err-data_part-clause-accepts
returns-in_err-data_part-clause-accepts c = accepts-from_outcome c.args.text.now c.utf8.text c.from_residual.result (search rules)

pub returns-in_err-validate_data_part-clause-accepts : goal.returns-in_err-validate_data_part-clause-accepts
returns-in_err-validate_data_part-clause-accepts c = accepts-from_outcome c.args.text.now c.utf8.text c.from_residual-in_err-validate_data_part.result (search rules)

pub returns-in_err-validate_header-clause-accepts : goal.returns-in_err-validate_header-clause-accepts
returns-in_err-validate_header-clause-accepts c =
    let text = c.args.text.now in
    let hrp : List ℕ = take 2 text in
    let given : List ℕ = c.in_ok-data_part.data_part.now in
    let read = c.in_ok-data_part.ensures in
    let valid = subst (λ (t : List ℕ). HasValidChecksum codex32 (length text) (take 2 t) given) c.as_bytes.ensures.value c.in_ok-validate_data_part.ensures in
    let p = err_from_is_err_and c.from_residual-in_err-validate_header.result c.from_residual-in_err-validate_header.ensures.1 in
    accepts-from_outcome text c.utf8.text c.from_residual-in_err-validate_header.result
    (rw p.1 (rw p.2 (inr (record {
      hrp = hrp;
      data_part = given;
      grammar = read.1;
      framed = read.0;
      refusal = body_refused codex32 text hrp given _ (accepted codex32 text hrp given read.1 valid) c.in_err-validate_header.ensures;
    }))))

pub cut-requires-clause-ascii : goal.cut-requires-clause-ascii
cut-requires-clause-ascii c = ascii_text c.args.text.now (take 2 c.args.text.now) c.in_ok-data_part.data_part.now c.in_ok-data_part.ensures.1

pub returns-clause-parts : goal.returns-clause-parts
returns-clause-parts c =
    let text = c.args.text.now in
    let hrp : List ℕ = take 2 text in
    let given : List ℕ = c.in_ok-data_part.data_part.now in
    let read = c.in_ok-data_part.ensures in
    string_of text hrp given c.cut.result
    (accepted codex32 text hrp given read.1
    (subst (λ (t : List ℕ). HasValidChecksum codex32 (length text) (take 2 t) given) c.as_bytes.ensures.value c.in_ok-validate_data_part.ensures))
    (framed-from text hrp given read.0 read.1)
    c.in_ok-validate_header.ensures
    c.cut.ensures.threshold c.cut.ensures.identifier c.cut.ensures.share_index c.cut.ensures.payload

pub returns-clause-accepts : goal.returns-clause-accepts
returns-clause-accepts c =
    let text = c.args.text.now in
    let hrp : List ℕ = take 2 text in
    let given : List ℕ = c.in_ok-data_part.data_part.now in
    let read = c.in_ok-data_part.ensures in
    accepts-from_outcome text c.utf8.text (Ok c.cut.result)
    (string_of text hrp given c.cut.result
    (accepted codex32 text hrp given read.1
    (subst (λ (t : List ℕ). HasValidChecksum codex32 (length text) (take 2 t) given) c.as_bytes.ensures.value c.in_ok-validate_data_part.ensures))
    (framed-from text hrp given read.0 read.1)
    c.in_ok-validate_header.ensures
    c.cut.ensures.threshold c.cut.ensures.identifier c.cut.ensures.share_index c.cut.ensures.payload)
