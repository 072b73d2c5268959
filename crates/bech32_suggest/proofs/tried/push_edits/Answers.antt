use Rattle.std.specs.Prelude.{string_bytes}
use Rattle.bech32_hrp.specs.HrpBytes.{hrp_bytes}
use Rattle.bech32_suggest.proofs.Adding.{adds_edits}
use Rattle.bech32_suggest.proofs.tried.push_edits.Goals as goal

pub returns : goal.returns
returns g c =
    adds_edits (hrp_bytes c.args.wanted.now.hrp.now) c.args.wanted.now.typed.now c.args.reading.now.text.now g.Ck.Checksum.code _ _ c.in_ok-edited.edited.items c.as_slice.result.now c.push_each.result c.as_slice.ensures.value
    (λ m. (m.edit, string_bytes m.text)) c.in_ok-edited.ensures c.push_each.ensures
