use Rattle.std.proofs.Common.{◌≡◌, ◌+◌, ◌*◌, ◌/◌, ◌++◌, ℕ, length, drop, ap, arith}
use Rattle.std.proofs.lemmas.List.{length-take-le}
use Rattle.std.proofs.lemmas.Result.{err_from_is_err_and}
use Rattle.bech32_bits.proofs.RoundTrip.{length-to_fes}
use Rattle.bech32_bits.specs.Bits.{to_fes}
use Rattle.bech32_checksum.specs.Code.{Code}
use Rattle.codex32.specs.Encode.{code_of_byte_count}
use Rattle.codex32_small.specs.Code.{code_of_kind}
use Rattle.codex32_small.proofs.Strings.{encoded_of, header-refused, length-string, room-refused, size-refused}
use Rattle.codex32_small.proofs.encode.encoded.Goals as goal

pub returns-in_err-header-clause-refused : goal.returns-in_err-header-clause-refused
returns-in_err-header-clause-refused c =
    let p = err_from_is_err_and c.from_residual.result c.from_residual.ensures.1 in
    rw p.1
    (rw p.2
    (header-refused c.args.threshold c.args.identifier.now c.args.share_index c.args.bytes.now (length c.args.text.now) c.in_err-header.field-0.0 c.in_err-header.ensures))

pub returns-in_default-clause-refused : goal.returns-in_default-clause-refused
returns-in_default-clause-refused c =
    size-refused c.args.threshold c.args.identifier.now c.args.share_index c.args.bytes.now (length c.args.text.now) c.in_ok-header.header c.in_ok-header.ensures c.in_default.ensures

pub returns-then-count-text-clause-accepts : goal.returns-then-count-text-clause-accepts
returns-then-count-text-clause-accepts c can =
    let bytes = c.args.bytes.now in
    let degree : length (code_of_kind c.in-Some.kind).generator ≡ length (code_of_byte_count (length bytes)).generator =
    ap (λ (code : Code). length code.generator) c.in-Some.ensures.1 in
    absurd (omega (arith, c.if-count-text.true, c.degree_of.ensures.value, degree, length-to_fes bytes, can.fits))

pub returns-then-count-text-clause-refused : goal.returns-then-count-text-clause-refused
returns-then-count-text-clause-refused c =
    let bytes = c.args.bytes.now in
    room-refused c.args.threshold c.args.identifier.now c.args.share_index bytes (length c.args.text.now) c.in_ok-header.header c.in_ok-header.ensures c.in-Some.kind
    c.in-Some.ensures.0 c.in-Some.ensures.1 (omega (arith, c.if-count-text.true, c.degree_of.ensures.value, length-to_fes bytes))

pub put_string-requires-clause-size : goal.put_string-requires-clause-size
put_string-requires-clause-size c =
    let bytes = c.args.bytes.now in
    let count : ℕ = 9 + (8 * length bytes + 4) / 5 + c.degree_of.result in
    let part = length-take-le count c.args.text.now (omega (arith, c.if-count-text.false)) in
    omega (arith, part, c.degree_of.ensures.value, length-to_fes bytes)

pub returns-clause-value : goal.returns-clause-value
returns-clause-value c =
    let bytes = c.args.bytes.now in
    let made = c.put_string.new.text in
    let kind = c.in-Some.kind in
    let size = length-string (code_of_kind kind) c.in_ok-header.header (to_fes bytes) made c.put_string.ensures in
    let counted : 9 + (8 * length bytes + 4) / 5 + c.degree_of.result ≡ length made = omega (arith, size, c.degree_of.ensures.value, length-to_fes bytes) in
    record {
      text = made;
      is_text = encoded_of c.args.threshold c.args.identifier.now c.args.share_index bytes (length c.args.text.now) c.in_ok-header.header c.in_ok-header.ensures kind made
          c.in-Some.ensures.0 c.in-Some.ensures.1 c.put_string.ensures;
      put = record {
        fits = omega (arith, size, c.if-count-text.false, c.degree_of.ensures.value, length-to_fes bytes);
        buffer = ap (λ (k : ℕ). made ++ drop k c.args.text.now) counted;
        count_is = counted;
      };
    }
