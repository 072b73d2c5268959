use Rattle.std.proofs.Common.{◌≡◌, ◌≤◌, ◌++◌, ◌∙◌, arith, codes, refl}
use Rattle.std.proofs.lemmas.Result.{err_from_is_err_and}
use Rattle.bech32_bits.specs.Bits.{to_fes}
use Rattle.bech32_checksum.specs.Encoded.{IsEncodedText}
use Rattle.bech32_encode.specs.TextLength.{encoded_length_of}
use Rattle.line_program.proofs.Pieces.{two-pieces}
use Rattle.b32_replies.proofs.Sizes.{encoded-size}
use Rattle.b32_replies.proofs.Replies.{encode-text, encode-refused_hex, encode-refused_part, encode-refused_text}
use Rattle.b32_replies.proofs.encode.encode.Goals as goal

pub returns-clause-answer : goal.returns-clause-answer
returns-clause-answer g c =
    let (bytes, is_hex, size, there) = c.in_ok-size.ensures.put in
    let (text, is_text, added) = c.append_text.ensures.text in
    let hrp = c.in_ok-hrp.ensures.1 in
    let (count, fits) = c.in_ok-count.ensures.value bytes size in
    let at = there c.in_ok-count.ensures.fits.1 in
    let is : IsEncodedText g.Ck.Checksum.code c.args.hrp.now (to_fes bytes) text = rw (at, hrp) at is_text in
    let same : c.in_ok-count.count ≡ encoded_length_of g.Ck.Checksum.code c.args.hrp.now (to_fes bytes) = rw hrp at count in
    let fit : encoded_length_of g.Ck.Checksum.code c.args.hrp.now (to_fes bytes) ≤ g.Ck.Checksum.code.code_length = omega (arith, same, fits) in
    let short = encoded-size _ _ bytes text c.requires.short fit is in
    record {
      said = codes "ok " ++ text;
      says = encode-text g.Ck.Checksum.code c.args.hrp.now c.args.hex.now bytes text is_hex c.in_ok-hrp.ensures.0 is fit;
      size = omega (arith, short);
      added = two-pieces c.args.out.now.items (codes "ok ") text _ _ c.append.ensures.items added;
    }

pub returns-in_err-size-clause-answer : goal.returns-in_err-size-clause-answer
returns-in_err-size-clause-answer g c =
    let p = err_from_is_err_and c.from_residual.result c.from_residual.ensures.1 in
    rw p.1 (rw p.2 (encode-refused_hex g.Ck.Checksum.code c.args.hrp.now c.args.hex.now c.in_err-size.field-0.0 c.in_err-size.ensures.put, refl))

pub returns-in_err-hrp-clause-answer : goal.returns-in_err-hrp-clause-answer
returns-in_err-hrp-clause-answer g c =
    let p = err_from_is_err_and c.from_residual-in_err-hrp.result c.from_residual-in_err-hrp.ensures.1 in
    let (bytes, is_hex, size, there) = c.in_ok-size.ensures.put in
    let (e, is, refused) = c.in_err-hrp.ensures in
    rw p.1 (rw (p.2 ∙ is) (encode-refused_part g.Ck.Checksum.code c.args.hrp.now c.args.hex.now bytes e is_hex refused, refl))

pub returns-in_err-count-clause-answer : goal.returns-in_err-count-clause-answer
returns-in_err-count-clause-answer g c =
    let p = err_from_is_err_and c.from_residual-in_err-count.result c.from_residual-in_err-count.ensures.1 in
    let (bytes, is_hex, size, there) = c.in_ok-size.ensures.put in
    let long = rw c.in_ok-hrp.ensures.1 at (c.in_err-count.ensures.value bytes size) in
    rw p.1 (rw p.2 (encode-refused_text g.Ck.Checksum.code c.args.hrp.now c.args.hex.now bytes c.in_err-count.field-0.0 is_hex c.in_ok-hrp.ensures.0 long, refl))
