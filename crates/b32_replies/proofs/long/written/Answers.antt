use Rattle.std.proofs.Common.{MatchResult, ap, string_bytes}
use Rattle.std.proofs.lemmas.Result.{err_from_is_err_and}
use Rattle.bech32_checksum.specs.Code.{Code}
use Rattle.bech32_hrp.specs.HrpBytes.{hrp_bytes}
use Rattle.bech32.specs.Long.{long_bech32, long_bech32m}
use Rattle.b32_replies.specs.LongRequest.{code_of_long}
use Rattle.b32_replies.specs.Reply.{IsLongWritten, IsNotWritten}
use Rattle.b32_replies.specs.declared.long_command.Kind.{Kind}
use Rattle.b32_replies.specs.declared.long_command.Kind.TheVariants.{Bytes, Elements}
use Rattle.b32_replies.specs.declared.refusal.Refusal.TheVariants.{Elements as ElementsRefusal}
use Rattle.b32_replies.proofs.LongAnswers.{known, written-bytes}
use Rattle.b32_replies.proofs.long.written.Goals as goal

pub returns-in-LongBech32 : goal.returns-in-LongBech32
returns-in-LongBech32 g c =
    let made = c.encode_in in
    let told = c.told in
    let hrp = hrp_bytes c.args.hrp in
    let values = c.args.values.now in
    known (λ (k : Kind) (x : Code). MatchResult told.result (λ s. IsLongWritten k x hrp values (string_bytes s)) (λ e. IsNotWritten k x hrp values e)) c.args.kind Bytes
    (code_of_long c.args.checksum) long_bech32 c.in-Bytes.is (ap code_of_long c.in-LongBech32.is)
    (written-bytes (λ s. string_bytes s) long_bech32 hrp values made.result told.result made.ensures.text made.ensures.fits made.ensures.refused told.ensures)

pub returns-in-LongBech32m : goal.returns-in-LongBech32m
returns-in-LongBech32m g c =
    let made = c.encode_in-in-LongBech32m in
    let told = c.told-in-LongBech32m in
    let hrp = hrp_bytes c.args.hrp in
    let values = c.args.values.now in
    known (λ (k : Kind) (x : Code). MatchResult told.result (λ s. IsLongWritten k x hrp values (string_bytes s)) (λ e. IsNotWritten k x hrp values e)) c.args.kind Bytes
    (code_of_long c.args.checksum) long_bech32m c.in-Bytes.is (ap code_of_long c.in-LongBech32m.is)
    (written-bytes (λ s. string_bytes s) long_bech32m hrp values made.result told.result made.ensures.text made.ensures.fits made.ensures.refused told.ensures)

pub returns-in_err-encode_elements-in-LongBech32-checksum : goal.returns-in_err-encode_elements-in-LongBech32-checksum
returns-in_err-encode_elements-in-LongBech32-checksum g c =
    let residual = c.from_residual in
    let p = err_from_is_err_and residual.result residual.ensures.1 in
    let hrp = hrp_bytes c.args.hrp in
    let e = c.in_err-encode_elements-in-LongBech32-checksum.field-0.0 in
    rw p.1 (rw p.2 (known (λ (k : Kind) (x : Code). IsNotWritten k x hrp c.args.values.now (ElementsRefusal e)) c.args.kind Elements (code_of_long c.args.checksum) long_bech32 c.in-Elements.is
    (ap code_of_long c.in-LongBech32-checksum.is) c.in_err-encode_elements-in-LongBech32-checksum.ensures.refused))

pub returns-in_ok-encode_elements-in-LongBech32-checksum : goal.returns-in_ok-encode_elements-in-LongBech32-checksum
returns-in_ok-encode_elements-in-LongBech32-checksum g c =
    let made = c.in_ok-encode_elements-in-LongBech32-checksum in
    let hrp = hrp_bytes c.args.hrp in
    let text = string_bytes made.field-0 in
    known (λ (k : Kind) (x : Code). IsLongWritten k x hrp c.args.values.now text) c.args.kind Elements (code_of_long c.args.checksum) long_bech32 c.in-Elements.is
    (ap code_of_long c.in-LongBech32-checksum.is) (record { is_text = made.ensures.text; fits = made.ensures.fits; may_be = made.ensures.values })

pub returns-in_err-encode_elements-in-LongBech32m-checksum : goal.returns-in_err-encode_elements-in-LongBech32m-checksum
returns-in_err-encode_elements-in-LongBech32m-checksum g c =
    let residual = c.from_residual-in_err-encode_elements-in-LongBech32m-checksum in
    let p = err_from_is_err_and residual.result residual.ensures.1 in
    let hrp = hrp_bytes c.args.hrp in
    let e = c.in_err-encode_elements-in-LongBech32m-checksum.field-0.0 in
    rw p.1 (rw p.2 (known (λ (k : Kind) (x : Code). IsNotWritten k x hrp c.args.values.now (ElementsRefusal e)) c.args.kind Elements (code_of_long c.args.checksum) long_bech32m c.in-Elements.is
    (ap code_of_long c.in-LongBech32m-checksum.is) c.in_err-encode_elements-in-LongBech32m-checksum.ensures.refused))

pub returns-in_ok-encode_elements-in-LongBech32m-checksum : goal.returns-in_ok-encode_elements-in-LongBech32m-checksum
returns-in_ok-encode_elements-in-LongBech32m-checksum g c =
    let made = c.in_ok-encode_elements-in-LongBech32m-checksum in
    let hrp = hrp_bytes c.args.hrp in
    let text = string_bytes made.field-0 in
    known (λ (k : Kind) (x : Code). IsLongWritten k x hrp c.args.values.now text) c.args.kind Elements (code_of_long c.args.checksum) long_bech32m c.in-Elements.is
    (ap code_of_long c.in-LongBech32m-checksum.is) (record { is_text = made.ensures.text; fits = made.ensures.fits; may_be = made.ensures.values })
