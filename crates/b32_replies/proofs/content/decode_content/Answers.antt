use Rattle.std.proofs.Common.{◌∷◌, ◌++◌, ℕ, List, length, refl, ap, ◌∙◌, arith, codes}
use Rattle.std.proofs.lemmas.Result.{err_from_is_err_and}
use Rattle.bech32_hrp.specs.HrpBytes.{hrp_bytes}
use Rattle.bech32_hrp.specs.Hrp.{lowered}
use Rattle.b32_replies.specs.Hex.{hex_of}
use Rattle.b32_replies.proofs.Contents.{content-sizes, refuses-content, says-content}
use Rattle.b32_replies.proofs.Sizes.{parts-reply}
use Rattle.b32_replies.proofs.content.decode_content.Goals as goal

pub append_decoded-requires : goal.append_decoded-requires
append_decoded-requires g c =
    let fits = content-sizes g.Ck.Checksum.code c.args.text.now c.args.content (hrp_bytes c.in_ok-hrp.hrp) c.in_ok-hrp.items.items c.requires.short c.requires.checked c.in_ok-hrp.ensures in
    omega (arith, fits, ap length c.as_slice.ensures.value, c.requires.room)

pub returns-clause-answer : goal.returns-clause-answer
returns-clause-answer g c =
    let code = g.Ck.Checksum.code in
    let hrp = hrp_bytes c.in_ok-hrp.hrp in
    let items = c.in_ok-hrp.items.items in
    let is = c.in_ok-hrp.ensures in
    record {
      said = codes "ok " ++ (lowered hrp ++ (32 ∷ hex_of items));
      says = says-content code c.args.text.now c.args.content hrp items is;
      size = omega (arith, parts-reply hrp items, content-sizes code c.args.text.now c.args.content hrp items c.requires.short c.requires.checked is);
      added = c.append_decoded.ensures.items ∙ ap (λ (l : List ℕ). c.args.out.now.items ++ (codes "ok " ++ (lowered hrp ++ (32 ∷ hex_of l)))) c.as_slice.ensures.value;
    }

pub returns-in_err-hrp-clause-answer : goal.returns-in_err-hrp-clause-answer
returns-in_err-hrp-clause-answer g c =
    let p = err_from_is_err_and c.from_residual.result c.from_residual.ensures.1 in
    rw p.1 (rw p.2 (refuses-content g.Ck.Checksum.code c.args.text.now c.args.content c.in_err-hrp.field-0.0 c.in_err-hrp.ensures, refl))
