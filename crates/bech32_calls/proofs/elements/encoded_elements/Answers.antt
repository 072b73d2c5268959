use Rattle.std.proofs.Common.{◌≤◌, inl, inr, length, arith}
use Rattle.std.proofs.lemmas.Result.{err_from_is_err_and}
use Rattle.bech32_calls.proofs.InElements.{elements_put}
use Rattle.bech32_calls.proofs.elements.encoded_elements.Goals as goal

pub returns-in_err-part-clause-refused : goal.returns-in_err-part-clause-refused
returns-in_err-part-clause-refused g c =
    let p = err_from_is_err_and c.from_residual.result c.from_residual.ensures.1 in
    rw p.1 (rw p.2 (inl c.in_err-part.ensures))

pub returns-in_err-count-clause-refused : goal.returns-in_err-count-clause-refused
returns-in_err-count-clause-refused g c =
    let p = err_from_is_err_and c.from_residual-in_err-count.result c.from_residual-in_err-count.ensures.1 in
    rw p.1 (rw p.2 (inr (c.in_ok-part.ensures.0, c.in_err-count.ensures)))

pub returns-in-Some-clause-refused : goal.returns-in-Some-clause-refused
returns-in-Some-clause-refused g c = inr (c.in_ok-part.ensures.0, (c.in_ok-count.ensures.1, c.in-Some.ensures))

pub returns-clause-value : goal.returns-clause-value
returns-clause-value g c =
    let (text, is, put) = c.put_text_of_elements.ensures in
    let room : c.in_ok-count.count ≤ length c.args.text.now = omega arith in
    elements_put g.Ck.Checksum.code c.args.hrp.now _ c.args.elements.now text c.args.text.now c.put_text_of_elements.new.buffer c.put_text_of_elements.result c.in_ok-count.count
    c.requires c.in_ok-part.ensures.0 c.in_ok-part.ensures.1 c.in_default.ensures c.in_ok-count.ensures.0 c.in_ok-count.ensures.1 room is put
