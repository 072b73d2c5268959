use Rattle.std.proofs.Common.{ℕ, List, ap, sym, subst}
use Rattle.std.proofs.lemmas.Result.{err_from_is_err_and}
use Rattle.bech32_hrp.specs.HrpBytes.{hrp_bytes}
use Rattle.bech32.specs.Contents.{IsContentOf}
use Rattle.bech32.proofs.Contents.{content-from_parts, no_content}
use Rattle.bech32.proofs.content.content_in.Goals as goal

pub returns-in_err-items-clause-refused : goal.returns-in_err-items-clause-refused
returns-in_err-items-clause-refused g c =
    let p = err_from_is_err_and c.from_residual-in_err-items.result c.from_residual-in_err-items.ensures.1 in
    let (read, tested) = c.in_ok-checked.ensures in
    rw p.1 (rw p.2 (no_content g.Ck.Checksum.code c.args.s.now _ read.data_part _ read.accepted read.characters c.args.content tested))

pub returns-clause-value : goal.returns-clause-value
returns-clause-value g c =
    let code = g.Ck.Checksum.code in
    let (read, tested) = c.in_ok-checked.ensures in
    subst (λ (h : List ℕ). IsContentOf c.args.content code c.args.s.now h c.in_ok-items.items.items) (sym (ap hrp_bytes c.hrp.ensures))
    (content-from_parts code c.args.s.now _ read.data_part _ read.accepted read.characters c.args.content c.in_ok-items.items.items tested c.in_ok-items.ensures)
