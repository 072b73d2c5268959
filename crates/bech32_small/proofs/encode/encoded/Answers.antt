use Rattle.std.proofs.Common.{◌<◌, ◌≤◌, length, inl, inr, refl, sym, arith}
use Rattle.std.proofs.lemmas.Result.{err_from_is_err_and}
use Rattle.bech32_bits.specs.Bits.{to_fes}
use Rattle.bech32_bits.proofs.RoundTrip.{length-to_fes}
use Rattle.bech32_encode.specs.TextLength.{encoded_length_of}
use Rattle.bech32_calls.specs.declared.refusal.Refusal.TheVariants.{NoRoom, TooLong}
use Rattle.bech32_small.proofs.Numbers.{numbered}
use Rattle.bech32_small.proofs.Targets.{length-by}
use Rattle.bech32_small.proofs.encode.encoded.Goals as goal

pub returns-in_err-test_part-clause-refused : goal.returns-in_err-test_part-clause-refused
returns-in_err-test_part-clause-refused c code has most =
    let p = err_from_is_err_and c.from_residual.result c.from_residual.ensures.1 in
    rw p.1 (rw p.2 (numbered _ (λ e f. inl f) c.in_err-test_part.ensures))

pub returns-then-count-most-clause-refused : goal.returns-then-count-most-clause-refused
returns-then-count-most-clause-refused c code has most =
    let is = length-by c.args.target code has c.args.hrp.now c.args.bytes.now c.text_length_of_part-count.result c.text_length_of_part-count.ensures in
    let over : code.code_length < encoded_length_of code c.args.hrp.now (to_fes c.args.bytes.now) = omega (arith, is, most, c.if-count-most.true) in
    record {
      refusal = TooLong (record { encoded_length = c.text_length_of_part-count.result; code_length = c.args.most });
      holds = inr (c.in_ok-test_part.ensures, (over, λ i. record { encoded_length = is i; code_length = sym most i }));
      number = refl;
    }

pub returns-then-count-text-clause-refused : goal.returns-then-count-text-clause-refused
returns-then-count-text-clause-refused c code has most =
    let is = length-by c.args.target code has c.args.hrp.now c.args.bytes.now c.text_length_of_part-count.result c.text_length_of_part-count.ensures in
    let fits : encoded_length_of code c.args.hrp.now (to_fes c.args.bytes.now) ≤ code.code_length = omega (arith, is, most, c.if-count-most.false) in
    let lacks : length c.args.text.now < encoded_length_of code c.args.hrp.now (to_fes c.args.bytes.now) = omega (arith, is, c.if-count-text.true) in
    record { refusal = NoRoom; holds = inr (c.in_ok-test_part.ensures, (fits, lacks)); number = refl }

pub put_in_room-requires : goal.put_in_room-requires
put_in_room-requires c =
    let elements = length-to_fes c.args.bytes.now in
    omega (arith, elements, c.text_length_of_part-count.ensures, c.requires, c.if-count-most.false, c.if-count-text.false)

pub returns-clause-value : goal.returns-clause-value
returns-clause-value c code has most =
    let is = length-by c.args.target code has c.args.hrp.now c.args.bytes.now c.text_length_of_part-count.result c.text_length_of_part-count.ensures in
    let fits : encoded_length_of code c.args.hrp.now (to_fes c.args.bytes.now) ≤ code.code_length = omega (arith, is, most, c.if-count-most.false) in
    let (written, is_text, put) = c.put_in_room.ensures code has in
    record { text = written; is_hrp = c.in_ok-test_part.ensures; is_text = is_text; fits = fits; put = put }
