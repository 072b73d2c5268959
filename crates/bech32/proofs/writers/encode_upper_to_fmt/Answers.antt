use Rattle.std.proofs.Common.{◌≡◌, ◌∙◌, true, ap, sym, subst, OnOk, rules}
use Rattle.std.proofs.lemmas.Result.{on_ok_weaker}
use Rattle.bech32_bits.specs.Bits.{to_fes}
use Rattle.io_traits.specs.Watched.{device_of}
use Rattle.bech32_hrp.specs.HrpBytes.{hrp_bytes}
use Rattle.bech32.specs.Writing.{WritesText}
use Rattle.bech32.proofs.Writing.{text_through, fmt_refusal}
use Rattle.bech32.proofs.writers.encode_upper_to_fmt.Goals as goal

pub returns-clause-ok : goal.returns-clause-ok
returns-clause-ok g c =
    let took = g.W.Write.write_str_gives in
    let call = c.encode_into_fmt in
    let last : device_of call.new.sink ≡ c.fmt-1.given.0 = search rules in
    subst (λ w. OnOk call.result (WritesText took c.args.fmt.now w true g.Ck.Checksum.code (hrp_bytes c.args.hrp) c.args.data.now)) last
    (subst (λ w. OnOk call.result (WritesText took w (device_of call.new.sink) true g.Ck.Checksum.code (hrp_bytes c.args.hrp) c.args.data.now)) c.new-sink.ensures.device
    (on_ok_weaker _ (text_through took (λ s. device_of s) _ _ true _ _ _) call.ensures.ok))

pub returns-clause-refused : goal.returns-clause-refused
returns-clause-refused g c =
    let call = c.encode_into_fmt in
    let last : device_of call.new.sink ≡ c.fmt-1.given.0 = search rules in
    fmt_refusal g.Ck.Checksum.code (hrp_bytes c.args.hrp) (to_fes c.args.data.now) (λ same. sym last ∙ ap (λ s. device_of s) same ∙ c.new-sink.ensures.device) (λ _. tt)
    call.result call.ensures.refused
