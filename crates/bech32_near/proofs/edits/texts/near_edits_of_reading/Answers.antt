use Rattle.std.specs.Prelude.{string_bytes}
use Rattle.std.proofs.lemmas.Result.{err_from_is_err_and}
use Rattle.bech32_near.proofs.Told.{edits_of, near_or_told, some_told}
use Rattle.bech32_near.proofs.edits.texts.near_edits_of_reading.Goals as goal

pub new-original-requires : goal.new-original-requires
new-original-requires g c = c.args.reading.now.is_reading.grammar.data_bytes

pub returns-in_err-edits : goal.returns-in_err-edits
returns-in_err-edits g c =
    let r = c.args.reading.now in
    let p = err_from_is_err_and c.from_residual.result c.from_residual.ensures.1 in
    let some = rw c.of_bytes.ensures at (rw c.new-original.ensures.hrp at (rw c.new-original.ensures.characters at c.in_err-edits.ensures)) in
    rw p.1 (some_told g.Ck.Checksum.code r.text.now r.hrp.now r.data_part.now r.is_reading.grammar some)

pub edited_all-requires : goal.edited_all-requires
edited_all-requires g c =
    let r = c.args.reading.now in
    let all = rw c.of_bytes.ensures at (rw c.new-original.ensures.hrp at (rw c.new-original.ensures.characters at c.in_ok-edits.ensures)) in
    edits_of g.Ck.Checksum.code r.text.now r.hrp.now r.data_part.now r.is_reading.grammar c.in_ok-edits.edits.items all.each

pub returns : goal.returns
returns g c =
    let r = c.args.reading.now in
    let all = rw c.of_bytes.ensures at (rw c.new-original.ensures.hrp at (rw c.new-original.ensures.characters at c.in_ok-edits.ensures)) in
    near_or_told g.Ck.Checksum.code r.text.now r.hrp.now r.data_part.now r.is_reading.grammar (λ m. m.edit) (λ m. string_bytes m.text)
    c.in_ok-edits.edits.items (λ v. v.items) c.edited_all.result all c.edited_all.ensures.same c.edited_all.ensures.each c.edited_all.ensures.some
