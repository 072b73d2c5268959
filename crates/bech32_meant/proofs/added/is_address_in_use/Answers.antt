use Rattle.std.proofs.Common.{◌≡◌, true, false}
use Rattle.bech32_decode.specs.Parts.{address_data, address_part, address_program, address_version}
use Rattle.bech32_suggest.proofs.Forms.{address_text, read_in_use}
use Rattle.bech32_meant.proofs.added.is_address_in_use.Goals as goal

pub returns-in-Ok : goal.returns-in-Ok
returns-in-Ok c =
    let e = rw c.in-Ok.is at c.new.ensures in
    let a = c.in-Ok.address in (
      λ yes. (address_part a, address_version a, address_program a, (e.parts.accepted.grammar.is_hrp, e.address), c.has_form_in_use.ensures.0 yes),
      λ is. c.has_form_in_use.ensures.1 (read_in_use c.args.text.now (address_part a) (address_version a) (address_data a) e.parts is),
    )

pub returns-in-Err : goal.returns-in-Err
returns-in-Err c =
    let e = rw c.in-Err.is at c.new.ensures in (
      λ yes. let k : false ≡ true = yes in absurd (cc k),
      λ is. let k = e.accepts.1 (address_text c.args.text.now is) in absurd (cc k),
    )
