use Rattle.std.proofs.Common.{◌≡◌, ◌+◌, ◌++◌, ℕ, length, drop, ap, arith}
use Rattle.std.proofs.lemmas.List.{length-map}
use Rattle.std.proofs.lemmas.Result.{err_from_is_err_and}
use Rattle.bech32_gf.specs.Fe32.{element_of, elements_of}
use Rattle.codex32_small.specs.Code.{code_of_kind}
use Rattle.codex32_small.proofs.Strings.{encoded_payload_of, header-refused-payload, length-string, room-refused-payload, size-refused-payload}
use Rattle.codex32_small.proofs.encode.encoded_payload.Goals as goal

pub returns-in_err-header-clause-refused : goal.returns-in_err-header-clause-refused
returns-in_err-header-clause-refused c =
    let p = err_from_is_err_and c.from_residual.result c.from_residual.ensures.1 in
    rw p.1
    (rw p.2
    (header-refused-payload c.args.threshold c.args.identifier.now c.args.share_index c.args.payload.now (length c.args.text.now) c.in_err-header.field-0.0 c.in_err-header.ensures))

pub returns-in_default-clause-refused : goal.returns-in_default-clause-refused
returns-in_default-clause-refused c =
    size-refused-payload c.args.threshold c.args.identifier.now c.args.share_index c.args.payload.now (length c.args.text.now) c.in_ok-header.header c.in_ok-header.ensures c.in-Ok.ensures c.in_default.ensures

pub returns-then-count-text-clause-refused : goal.returns-then-count-text-clause-refused
returns-then-count-text-clause-refused c =
    room-refused-payload c.args.threshold c.args.identifier.now c.args.share_index c.args.payload.now (length c.args.text.now) c.in_ok-header.header c.in_ok-header.ensures c.in-Some.kind
    c.in-Ok.ensures c.in-Some.ensures.0 c.in-Some.ensures.1 (omega (arith, c.if-count-text.true, c.degree_of.ensures.value))

pub returns-clause-value : goal.returns-clause-value
returns-clause-value c =
    let given = c.args.payload.now in
    let made = c.put_string.new.text in
    let kind = c.in-Some.kind in
    let size = length-string (code_of_kind kind) c.in_ok-header.header (elements_of given) made c.put_string.ensures in
    let counted : 9 + length given + c.degree_of.result ≡ length made = omega (arith, size, c.degree_of.ensures.value, length-map given element_of) in
    record {
      text = made;
      is_text = encoded_payload_of c.args.threshold c.args.identifier.now c.args.share_index given (length c.args.text.now) c.in_ok-header.header c.in_ok-header.ensures kind made
          c.in-Ok.ensures c.in-Some.ensures.0 c.in-Some.ensures.1 c.put_string.ensures;
      put = record {
        fits = omega (arith, size, c.if-count-text.false, c.degree_of.ensures.value, length-map given element_of);
        buffer = ap (λ (k : ℕ). made ++ drop k c.args.text.now) counted;
        count_is = counted;
      };
    }
